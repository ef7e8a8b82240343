-- What the running command of a service hears, by what was sent and by what was changed.
use Rattle.std.proofs.Common.{◌≡◌, ◌≢◌, ◌⊎◌, ℕ, Bool, true, false, List, [], ◌∷◌, Option, None, Some, map, find, inl, inr, refl, sym, subst, ap, append-nil}
use Rattle.std.specs.Prelude.{if◌then◌else◌}
use Rattle.std.specs.Option.{option_map}
use Rattle.xfs_base.specs.declared.moment.ClientId.{ClientId}
use Rattle.xfs_base.specs.declared.moment.Service.{Service}
use Rattle.xfs_base.specs.declared.moment.Service.TheVariants.{Keys}
use Rattle.serde_json.specs.Data.{Data}
use Rattle.serde_json.specs.View.{view}
use Rattle.serde_json.specs.declared.value.Value.{Value}
use Rattle.xfs_card.specs.declared.state.CardEffect.{CardEffect}
use Rattle.xfs_card.specs.declared.state.CardEffect.TheVariants as reader
use Rattle.xfs_card.specs.Slot.{Slot, empty, awaited, inside, at_exit, is_at_exit}
use Rattle.xfs_card.specs.Tracks.{tracks_payload}
use Rattle.xfs_mech.specs.Tracks.{CardTracks}
use Rattle.xfs_mech.specs.declared.key.KeyName.{KeyName}
use Rattle.xfs_card.specs.Table as card_reader
use Rattle.xfs_card.specs.declared.state.CardEvent.{CardEvent}
use Rattle.xfs_keyboard.specs.Entries.{Entry, completion, entry_payload, is_ignored, typed}
use Rattle.xfs_keyboard.specs.declared.state.KeyEvent.TheVariants.{Key}
use Rattle.xfs_keyboard.specs.Keyboard as keyboard
use Rattle.xfs_keyboard.specs.declared.state.KeyEvent.{KeyEvent}
use Rattle.xfs_queue.specs.declared.command.Command.{Command}
use Rattle.xfs_queue.specs.declared.command.Stage.{Stage}
use Rattle.xfs_queue.specs.declared.command.Stage.TheVariants.{Waiting, Running, Ready}
use Rattle.xfs_queue.specs.declared.command.Ticket.{Ticket}
use Rattle.xfs_queue.specs.Commands.{is_running, ticket_of}
use Rattle.xfs_queue.specs.Queue.{IsPending, IsQueue}
use Rattle.xfs_model.specs.Connections.{is_at as is_client_at, with_mail}
use Rattle.xfs_model.specs.Devices.{Hears, Saying, keyboard_says, with_keypad, with_saying, with_slot}
use Rattle.xfs_model.specs.Frames.{AreEvents, Notice}
use Rattle.xfs_model.specs.Results.{running, with_result}
use Rattle.xfs_model.specs.State.{Connection, Job, Outcome, Queues, State, queue_at, with_queue}
use Rattle.xfs_model.specs.Touches.{CardSays, IsHeard, TouchesCard, TouchesKeys, running_at}
use Rattle.xfs_model.proofs.Lists.{found_passes}
use Rattle.xfs_model.proofs.Queues.{with_same_queue}
use Rattle.xfs_traffic.specs.Jobs.{changed_at}
use Rattle.xfs_traffic.proofs.AnswerLaws.{pending_one}
use Rattle.xfs_traffic.proofs.ChangeLaws.{found, still}

with_nothing : (gets : Bool) (k : Connection) → with_mail gets [] k ≡ k
with_nothing true k = ap (λ w. record k { waiting = w }) (append-nil k.waiting)
with_nothing false k = refl

-- no frame is sent
pub unsent : (service : Service) (client : ClientId) (ks : List Connection) → map (λ k. with_mail (is_client_at service client k) [] k) ks ≡ ks
unsent service client [] = refl
unsent service client (k ∷ ks) = rw (with_nothing (is_client_at service client k) k) (ap (λ r. k ∷ r) (unsent service client ks))

-- a queue with this change of its running command, and connections with these frames
abbrev pub Hearing : State → Service → Ticket → Saying → List (List ℕ) → List Connection → Queues → Type 0
Hearing s service t saying frames connections queues =
    AreEvents t.id saying.events frames
    × (connections ≡ map (λ k. with_mail (is_client_at service t.client k) frames k) s.connections)
    × (queues ≡ with_queue s.queues service (changed_at (with_saying saying.result) t (queue_at s service)))

pub hears : (s : State) (service : Service) (a : Command Job) (saying : Saying) (frames : List (List ℕ)) (connections : List Connection) (queues : Queues)
    → Hearing s service (ticket_of a) saying frames connections queues → Hears s service a saying (record s { connections = connections; queues = queues })
hears s service a saying frames connections queues h = record { events = frames; are_events = h.0; is = rw (h.1, h.2) refl }

pub heard : (s : State) (service : Service) (t : Ticket) (saying : Saying) (frames : List (List ℕ)) (connections : List Connection) (queues : Queues)
    → Some t ≡ option_map ticket_of (running_at s service) → Hearing s service t saying frames connections queues
    → IsHeard s service (running_at s service) saying (record s { connections = connections; queues = queues })
heard s service t saying frames connections queues there h =
    let f = found (running_at s service) t there in
    let told : Hears s service f.command saying (record s { connections = connections; queues = queues }) = hears s service f.command saying frames connections queues (subst (λ u. Hearing s service u saying frames connections queues) f.at h) in
    subst (λ o. IsHeard s service o saying (record s { connections = connections; queues = queues })) (sym f.is) told

pub unheard : (s new : State) (service : Service) (saying : Saying) → running_at s service ≡ None → new ≡ s → IsHeard s service (running_at s service) saying new
unheard s new service saying none same = subst (λ o. IsHeard s service o saying new) (sym none) same

runs : (stage : Stage) → is_running stage ≡ true → Running ≡ stage
runs Waiting e = absurd (let f : false ≡ true = e in cc)
runs Running e = refl
runs Ready e = absurd (let f : false ≡ true = e in cc)

still_running : (a : Command Job) → is_running a.stage ≡ true → running a ≡ a
still_running a e = ap (λ stage. record a { stage = stage }) (runs a.stage e)

abbrev pub silent : Saying
silent = record { events = []; result = None }

heard_nothing_at : (s : State) (service : Service) (o : Option (Command Job)) → running_at s service ≡ o → IsQueue (queue_at s service) → IsHeard s service o silent s
heard_nothing_at s service None there kept = refl
heard_nothing_at s service (Some a) there kept =
    let same : changed_at running (ticket_of a) (queue_at s service) ≡ queue_at s service
    = still (λ b. is_running b.stage) running a (queue_at s service) there kept (still_running a (found_passes (λ b. is_running b.stage) (queue_at s service) a there)) in
    record { events = []; are_events = tt; is = sym (rw (unsent service a.client s.connections, same, with_same_queue s.queues service) refl) }

-- nothing is said
pub heard_nothing : (s : State) (service : Service) → IsQueue (queue_at s service) → IsHeard s service (running_at s service) silent s
heard_nothing s service kept = heard_nothing_at s service (running_at s service) refl kept

-- the command hears events, and runs on
pub heard_on : (s : State) (service : Service) (t : Ticket) (events : List Notice) (frames : List (List ℕ)) (connections : List Connection) → Some t ≡ option_map ticket_of (running_at s service) → IsQueue (queue_at s service)
    → AreEvents t.id events frames → connections ≡ map (λ k. with_mail (is_client_at service t.client k) frames k) s.connections
    → IsHeard s service (running_at s service) (record { events = events; result = None }) (record s { connections = connections })
heard_on s service t events frames connections there kept are mail =
    let f = found (running_at s service) t there in
    let same : changed_at running t (queue_at s service) ≡ queue_at s service
    = rw f.at (still (λ b. is_running b.stage) running f.command (queue_at s service) f.is kept (still_running f.command (found_passes (λ b. is_running b.stage) (queue_at s service) f.command f.is))) in
    heard s service t (record { events = events; result = None }) frames connections s.queues there (are, mail, sym (rw same (with_same_queue s.queues service)))

-- the command that runs is pending
pub runs_there : (q : List (Command Job)) (t : Ticket) → Some t ≡ option_map ticket_of (find (λ a. is_running a.stage) q) → IsPending q t
runs_there q t there =
    let f = found (find (λ a. is_running a.stage) q) t there in
    rw f.at (pending_one (λ a. is_running a.stage) q f.command f.is)

-- the command has its result, and hears no event
pub heard_result : (s : State) (service : Service) (t : Ticket) (result : Outcome) (queues : Queues) → Some t ≡ option_map ticket_of (running_at s service)
    → queues ≡ with_queue s.queues service (changed_at (with_result result) t (queue_at s service))
    → IsHeard s service (running_at s service) (record { events = []; result = Some result }) (record s { queues = queues })
heard_result s service t result queues there at =
    heard s service t (record { events = []; result = Some result }) [] s.connections queues there (tt, sym (unsent service t.client s.connections), at)

pub touches_card : (s : State) (event : CardEvent) (e : card_reader.Effect) (next : Slot) (new : State) → card_reader.row_of s.slot event ≡ card_reader.row e next → CardSays (with_slot s next) e new → TouchesCard s event new
touches_card s event e next new is says = rw is says

pub touches_keys : (s : State) (event : KeyEvent) (e : keyboard.Effect) (next : Option Entry) (new : State) → keyboard.row_of s.keypad event ≡ keyboard.row e next
    → IsHeard (with_keypad s next) Keys (running_at s Keys) (keyboard_says e) new → TouchesKeys s event new
touches_keys s event e next new is says = rw is says

abbrev effect_of : card_reader.Row → card_reader.Effect
effect_of r = r.effect

-- what an insertion says
abbrev pub InsertedEffects : card_reader.Effect → Type 0
InsertedEffects e = (e ≡ card_reader.nothing) ⊎ ((payload : Data) × (e ≡ card_reader.inserted payload))

pub inserted_effects : (card : CardTracks) (slot : Slot) (e : card_reader.Effect) (next : Slot) → card_reader.inserted_row card slot ≡ card_reader.row e next → InsertedEffects e
inserted_effects card empty e next is = inl (sym (ap effect_of is))
inserted_effects card (awaited asked) e next is = inr (tracks_payload asked card, sym (ap effect_of is))
inserted_effects card (inside before) e next is = inl (sym (ap effect_of is))
inserted_effects card at_exit e next is = inl (sym (ap effect_of is))

pub nothing_else : (effect : CardEffect) → InsertedEffects (card_reader.effect_of effect) → effect ≢ reader.Nothing → ((value : Value) → effect ≢ reader.Inserted value) → ⊥
nothing_else reader.Nothing says none some = none refl
nothing_else reader.AskInsert (inl e) none some = let f : card_reader.ask_insert ≡ card_reader.nothing = e in cc
nothing_else reader.AskInsert (inr w) none some = let f : card_reader.ask_insert ≡ card_reader.inserted w.0 = w.1 in cc
nothing_else (reader.Inserted value) says none some = some value refl
nothing_else (reader.Done code value) (inl e) none some = let f : card_reader.done code (view value) ≡ card_reader.nothing = e in cc
nothing_else (reader.Done code value) (inr w) none some = let f : card_reader.done code (view value) ≡ card_reader.inserted w.0 = w.1 in cc
nothing_else reader.Removed (inl e) none some = let f : card_reader.removed ≡ card_reader.nothing = e in cc
nothing_else reader.Removed (inr w) none some = let f : card_reader.removed ≡ card_reader.inserted w.0 = w.1 in cc

-- a removal where no card is at the exit says nothing
pub removed_other : (slot : Slot) (e : card_reader.Effect) (next : Slot) → card_reader.removed_row slot ≡ card_reader.row e next → is_at_exit slot ≡ false → e ≡ card_reader.nothing
removed_other empty e next is other = sym (ap effect_of is)
removed_other (awaited asked) e next is other = sym (ap effect_of is)
removed_other (inside card) e next is other = sym (ap effect_of is)
removed_other at_exit e next is other = absurd (let f : true ≡ false = other in cc)

pub removed_exit : (slot : Slot) (e : card_reader.Effect) (next : Slot) → card_reader.removed_row slot ≡ card_reader.row e next → is_at_exit slot ≡ true → e ≡ card_reader.removed
removed_exit empty e next is there = absurd (let f : false ≡ true = there in cc)
removed_exit (awaited asked) e next is there = absurd (let f : false ≡ true = there in cc)
removed_exit (inside card) e next is there = absurd (let f : false ≡ true = there in cc)
removed_exit at_exit e next is there = sym (ap effect_of is)

abbrev key_effect_of : keyboard.Row → keyboard.Effect
key_effect_of r = r.effect

abbrev KeyEffects : KeyName → keyboard.Effect → Type 0
KeyEffects key e = (e ≡ keyboard.nothing) ⊎ ((e ≡ keyboard.told key) ⊎ ((payload : Data) × (e ≡ keyboard.ended key payload)))

key_cases : (b : Bool) (entry : Entry) (key : KeyName) (digits : List KeyName) (o : Option (List ℕ)) (e : keyboard.Effect) (next : Option Entry)
    → (if b then keyboard.row keyboard.nothing (Some entry) else keyboard.behind_key entry.ask key digits o) ≡ keyboard.row e next → KeyEffects key e
key_cases true entry key digits o e next is = inl (sym (ap key_effect_of is))
key_cases false entry key digits None e next is = inr (inl (sym (ap key_effect_of is)))
key_cases false entry key digits (Some completion_) e next is = inr (inr (entry_payload completion_ digits, sym (ap key_effect_of is)))

-- what a key says
pub key_effects : (before : Option Entry) (key : KeyName) (e : keyboard.Effect) (next : Option Entry) → keyboard.row_of before (Key key) ≡ keyboard.row e next → KeyEffects key e
key_effects None key e next is = inl (sym (ap key_effect_of is))
key_effects (Some entry) key e next is = key_cases (is_ignored key entry) entry key (typed key entry.digits) (completion entry.ask key (typed key entry.digits)) e next is

-- the key that is told, or that ends the entry, is the one that was pressed
pub told_key : (key other : KeyName) → KeyEffects key (keyboard.told other) → other ≡ key
told_key key other (inl e) = absurd (let f : keyboard.told other ≡ keyboard.nothing = e in cc)
told_key key other (inr (inl e)) = let f : keyboard.told other ≡ keyboard.told key = e in cc
told_key key other (inr (inr w)) = absurd (let f : keyboard.told other ≡ keyboard.ended key w.0 = w.1 in cc)

pub ended_key : (key other : KeyName) (payload : Data) → KeyEffects key (keyboard.ended other payload) → other ≡ key
ended_key key other payload (inl e) = absurd (let f : keyboard.ended other payload ≡ keyboard.nothing = e in cc)
ended_key key other payload (inr (inl e)) = absurd (let f : keyboard.ended other payload ≡ keyboard.told key = e in cc)
ended_key key other payload (inr (inr w)) = let f : keyboard.ended other payload ≡ keyboard.ended key w.0 = w.1 in cc

pub not_failed : (key : KeyName) → ¬ KeyEffects key keyboard.failed
not_failed key (inl e) = let f : keyboard.failed ≡ keyboard.nothing = e in cc
not_failed key (inr (inl e)) = let f : keyboard.failed ≡ keyboard.told key = e in cc
not_failed key (inr (inr w)) = let f : keyboard.failed ≡ keyboard.ended key w.0 = w.1 in cc
