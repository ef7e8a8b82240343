-- Where the services are reached: the port of each, and the path of its URI.
use Rattle.std.specs.Prelude.{ℕ, List, ◌++◌, codes, decimal}
use Rattle.xfs_base.specs.declared.moment.Service.{Service}
use Rattle.xfs_base.specs.declared.moment.Service.TheVariants.{Publisher, Card, Keys, Cash}

abbrev pub port_of : Service → ℕ
port_of Publisher = 5846
port_of Card = 5847
port_of Keys = 5848
port_of Cash = 5849

abbrev pub path_of : Service → List ℕ
path_of Publisher = codes "/xfs4iot/v1.0"
path_of Card = codes "/xfs4iot/v1.0/cardreader"
path_of Keys = codes "/xfs4iot/v1.0/keyboard"
path_of Cash = codes "/xfs4iot/v1.0/cashdispenser"

-- the URI of a service, as the publisher tells it
abbrev pub uri_of : Service → List ℕ
uri_of service = codes "ws://localhost:" ++ decimal (port_of service) ++ path_of service
