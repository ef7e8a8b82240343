use Rattle.std.proofs.Common.{◌++◌, ◌∷◌, [], sym, refl, subst}
use Rattle.xfs_client.specs.History.{heard, told}
use Rattle.xfs_client.specs.Desks.{Recalls, IsOpenTo}
use Rattle.xfs_client.proofs.desk.Desk.note.Goals as goal

pub returns-in-Refused-clause-grown : goal.returns-in-Refused-clause-grown
returns-in-Refused-clause-grown c h keeps is_open =
    subst (λ a. Recalls c.close.new.self (h ++ heard (told a) ∷ [])) (sym c.in-Refused.is)
    (c.close.ensures h _ keeps (subst (λ a. IsOpenTo h (told a)) c.in-Refused.is is_open) record { over = λ q. refl; other = λ q. refl })

pub returns-in-Completed-clause-grown : goal.returns-in-Completed-clause-grown
returns-in-Completed-clause-grown c h keeps is_open =
    subst (λ a. Recalls c.close-in-Completed.new.self (h ++ heard (told a) ∷ [])) (sym c.in-Completed.is)
    (c.close-in-Completed.ensures h _ keeps (subst (λ a. IsOpenTo h (told a)) c.in-Completed.is is_open) record { over = λ q. refl; other = λ q. refl })
