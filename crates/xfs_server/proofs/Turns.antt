-- The parts of a turn, and turns one behind the other.
use Rattle.std.proofs.Common.{◌≡◌, ℕ, zero, suc, ◌+◌, List, [], ◌∷◌, ◌++◌, length, None, Some, Err, refl, ap, sym, ◌∙◌, append_assoc, arith, slice_get, get_or, take, drop, ◌<◌}
use Rattle.std.specs.Prelude.{option_map}
use Rattle.std.specs.declared.option.Option.{Option}
use Rattle.std.proofs.lemmas.List.{append-nil, length-append, take-append-drop, take_more}
use Rattle.xfs_base.specs.Causes.{IfTold}
use Rattle.xfs_base.specs.declared.faults.Memory.{Memory}
use Rattle.xfs_server.specs.Boards.{BoardLog, after_post, after_turn, after_fetch}
use Rattle.xfs_server.specs.Counted.{counted, grown}
use Rattle.xfs_server.specs.Links.{LinkLog, after_take, after_give}
use Rattle.xfs_server.specs.Sessions.{Stop, Course, Turns, Ends, Session, IsAtLimit, Heard, GaveFront, over_of, lost, given_at, kept, turns_in, fetches_in, fault_count, is_closed, Behind, AtClosed, AtFault, AtMemory, AtPost, AtTurn, AtGive}
use Rattle.xfs_server.specs.declared.link.GiveFault.{GiveFault}
use Rattle.xfs_server.specs.declared.link.Taking.{Taking}
use Rattle.xfs_server.specs.declared.session.Over.{Over}
use Rattle.xfs_server.proofs.Counts.{grown-grown, grown-nil, counted-counted, first_to_come, none_taken, coming-coming, grown_joined}

pub heard_quiet : (l m : LinkLog) (b : BoardLog) → m ≡ after_take l Taking.Quiet → Heard l m b b
heard_quiet l m b e = rw e record {
  texts = [];
  quiets = 1;
  one = refl;
  coming = none_taken l.coming;
  link_is = rw (grown-nil l.taken) refl;
  board_is = rw (grown-nil b.texts) refl;
}

pub ends_closed : (l m : LinkLog) (b : BoardLog) → m ≡ after_take l Taking.Closed → IfTold l.coming (λ texts. texts ≡ []) → Ends 0 Over.Closed l m b b
ends_closed l m b e none = rw e record {
  stop = AtClosed;
  over_is = refl;
  limit = tt;
  course = record {
    texts = [];
    quiets = 0;
    given = [];
    each = refl;
    coming = none_taken l.coming;
    taken = sym (grown-nil l.taken);
    posted = sym (grown-nil b.texts);
    handed = sym (grown-nil b.handed);
    latest = tt;
    sent = sym (grown-nil l.sent);
    told = refl;
    ended = none;
    faults = refl;
    quiet = refl;
    posts = refl;
    worked = refl;
    fetched = refl;
  };
}

pub ends_failed : (l m : LinkLog) (b : BoardLog) → m ≡ after_take l Taking.Failed → Ends 0 Over.Failed l m b b
ends_failed l m b e = rw e record {
  stop = AtFault;
  over_is = refl;
  limit = tt;
  course = record {
    texts = [];
    quiets = 0;
    given = [];
    each = refl;
    coming = none_taken l.coming;
    taken = sym (grown-nil l.taken);
    posted = sym (grown-nil b.texts);
    handed = sym (grown-nil b.handed);
    latest = tt;
    sent = sym (grown-nil l.sent);
    told = refl;
    ended = tt;
    faults = refl;
    quiet = refl;
    posts = refl;
    worked = refl;
    fetched = refl;
  };
}

pub ends_unheard : (l m : LinkLog) (b : BoardLog) → m ≡ l → Ends 0 Over.Memory l m b b
ends_unheard l m b e = rw e record {
  stop = AtMemory;
  over_is = refl;
  limit = tt;
  course = record {
    texts = [];
    quiets = 0;
    given = [];
    each = refl;
    coming = none_taken l.coming;
    taken = sym (grown-nil l.taken);
    posted = sym (grown-nil b.texts);
    handed = sym (grown-nil b.handed);
    latest = tt;
    sent = sym (grown-nil l.sent);
    told = refl;
    ended = tt;
    faults = refl;
    quiet = refl;
    posts = refl;
    worked = refl;
    fetched = refl;
  };
}

pub ends_unposted : (l m : LinkLog) (b d : BoardLog) (text : List ℕ) (want : Memory) → m ≡ after_take l (Taking.Text text)
    → IfTold l.coming (λ texts. slice_get texts 0 ≡ Some text) → d ≡ after_post b text (Err want) → Ends 0 Over.Memory l m b d
ends_unposted l m b d text want e first f = rw (e, f) record {
  stop = AtPost text;
  over_is = refl;
  limit = tt;
  course = record {
    texts = [];
    quiets = 0;
    given = [];
    each = refl;
    coming = first_to_come l.coming text first;
    taken = refl;
    posted = sym (grown-nil b.texts);
    handed = sym (grown-nil b.handed);
    latest = tt;
    sent = sym (grown-nil l.sent);
    told = refl;
    ended = tt;
    faults = refl;
    quiet = refl;
    posts = refl;
    worked = refl;
    fetched = refl;
  };
}

pub ends_unturned : (l m : LinkLog) (b d e : BoardLog) → Heard l m b d → e ≡ after_turn d → Ends 0 Over.Memory l m b e
ends_unturned l m b d e h is = rw is record {
  stop = AtTurn;
  over_is = refl;
  limit = tt;
  course = record {
    texts = h.texts;
    quiets = h.quiets;
    given = [];
    each = h.one;
    coming = h.coming;
    taken = ap (λ k. k.taken) h.link_is ∙ rw (append-nil h.texts) refl;
    posted = ap (λ k. k.texts) h.board_is;
    handed = ap (λ k. k.handed) h.board_is ∙ sym (grown-nil b.handed);
    latest = tt;
    sent = ap (λ k. k.sent) h.link_is ∙ sym (grown-nil l.sent);
    told = ap (λ k. k.closed) h.link_is;
    ended = tt;
    faults = ap (λ k. k.faults) h.link_is;
    quiet = ap (λ k. k.quiets) h.link_is;
    posts = ap (λ k. k.posts) h.board_is ∙ rw (append-nil h.texts) refl;
    worked = ap (λ k. counted 1 k.turns) h.board_is;
    fetched = ap (λ k. k.fetches) h.board_is;
  };
}

pub whole_turn : (l m n : LinkLog) (b d e : BoardLog) (frames : List (List ℕ)) → Heard l m b d → e ≡ after_fetch (after_turn d) frames
    → n ≡ record m { sent = grown frames m.sent } → Course 1 Behind l n b e
whole_turn l m n b d e frames h is gave = rw (is, gave) record {
  texts = h.texts;
  quiets = h.quiets;
  given = frames;
  each = h.one;
  coming = h.coming;
  taken = ap (λ k. k.taken) h.link_is ∙ rw (append-nil h.texts) refl;
  posted = ap (λ k. k.texts) h.board_is;
  handed = ap (λ k. grown frames k.handed) h.board_is ∙ rw (append-nil frames) refl;
  latest = tt;
  sent = ap (λ k. grown frames k.sent) h.link_is ∙ rw (append-nil frames) refl;
  told = ap (λ k. k.closed) h.link_is;
  ended = tt;
  faults = ap (λ k. k.faults) h.link_is;
  quiet = ap (λ k. k.quiets) h.link_is;
  posts = ap (λ k. k.posts) h.board_is ∙ rw (append-nil h.texts) refl;
  worked = ap (λ k. counted 1 k.turns) h.board_is;
  fetched = ap (λ k. counted 1 k.fetches) h.board_is;
}

told_latest : (told : Option (List (List ℕ))) (frames all : List (List ℕ)) → frames ≡ all → IfTold (option_map (λ _. frames) told) (λ list. list ≡ all)
told_latest None frames all e = tt
told_latest (Some list) frames all e = e

pub ends_ungiven : (l m n : LinkLog) (b d e : BoardLog) (frames : List (List ℕ)) (fault : GiveFault) → Heard l m b d → e ≡ after_fetch (after_turn d) frames
    → GaveFront frames fault m n → Ends 0 (over_of (AtGive [] [] [] fault)) l n b e
ends_ungiven l m n b d e frames GiveFault.Failed h is g = rw (is, g.link_is) record {
  stop = AtGive g.given g.refused g.rest GiveFault.Failed;
  over_is = refl;
  limit = tt;
  course = record {
    texts = h.texts;
    quiets = h.quiets;
    given = [];
    each = h.one;
    coming = h.coming;
    taken = ap (λ k. k.taken) h.link_is ∙ rw (append-nil h.texts) refl;
    posted = ap (λ k. k.texts) h.board_is;
    handed = ap (λ k. grown frames k.handed) h.board_is ∙ ap (λ k. grown k b.handed) g.frames_are;
    latest = told_latest d.latest frames (g.given ++ g.refused ∷ g.rest) g.frames_are;
    sent = ap (λ k. grown g.given k.sent) h.link_is;
    told = ap (λ k. k.closed) h.link_is;
    ended = tt;
    faults = ap (λ k. counted 1 k.faults) h.link_is;
    quiet = ap (λ k. k.quiets) h.link_is;
    posts = ap (λ k. k.posts) h.board_is ∙ rw (append-nil h.texts) refl;
    worked = ap (λ k. counted 1 k.turns) h.board_is;
    fetched = ap (λ k. counted 1 k.fetches) h.board_is;
  };
}
ends_ungiven l m n b d e frames GiveFault.Memory h is g = rw (is, g.link_is) record {
  stop = AtGive g.given g.refused g.rest GiveFault.Memory;
  over_is = refl;
  limit = tt;
  course = record {
    texts = h.texts;
    quiets = h.quiets;
    given = [];
    each = h.one;
    coming = h.coming;
    taken = ap (λ k. k.taken) h.link_is ∙ rw (append-nil h.texts) refl;
    posted = ap (λ k. k.texts) h.board_is;
    handed = ap (λ k. grown frames k.handed) h.board_is ∙ ap (λ k. grown k b.handed) g.frames_are;
    latest = told_latest d.latest frames (g.given ++ g.refused ∷ g.rest) g.frames_are;
    sent = ap (λ k. grown g.given k.sent) h.link_is;
    told = ap (λ k. k.closed) h.link_is;
    ended = tt;
    faults = ap (λ k. k.faults) h.link_is;
    quiet = ap (λ k. k.quiets) h.link_is;
    posts = ap (λ k. k.posts) h.board_is ∙ rw (append-nil h.texts) refl;
    worked = ap (λ k. counted 1 k.turns) h.board_is;
    fetched = ap (λ k. counted 1 k.fetches) h.board_is;
  };
}

-- before the first turn
pub course_start : (l : LinkLog) (b : BoardLog) → Course 0 Behind l l b b
course_start l b = record {
  texts = [];
  quiets = 0;
  given = [];
  each = refl;
  coming = none_taken l.coming;
  taken = sym (grown-nil l.taken);
  posted = sym (grown-nil b.texts);
  handed = sym (grown-nil b.handed);
  latest = tt;
  sent = sym (grown-nil l.sent);
  told = refl;
  ended = tt;
  faults = refl;
  quiet = refl;
  posts = refl;
  worked = refl;
  fetched = refl;
}

pub course_join : (n many : ℕ) (stop : Stop) (l m k : LinkLog) (b d e : BoardLog) → Course n Behind l m b d → Course many stop m k d e → Course (n + many) stop l k b e
course_join n many stop l m k b d e c f = record {
  texts = c.texts ++ f.texts;
  quiets = c.quiets + f.quiets;
  given = c.given ++ f.given;
  each = let long = length-append c.texts f.texts in let first = c.each in let second = f.each in omega (arith, long, first, second);
  coming = coming-coming c.texts f.texts (lost stop) l.coming m.coming k.coming c.coming f.coming;
  taken = f.taken ∙ ap (grown (f.texts ++ lost stop)) c.taken ∙ grown_joined c.texts f.texts (lost stop) l.taken;
  posted = f.posted ∙ ap (grown f.texts) c.posted ∙ grown-grown c.texts f.texts b.texts;
  handed = f.handed ∙ ap (grown (f.given ++ (given_at stop ++ kept stop))) c.handed ∙ grown_joined c.given f.given (given_at stop ++ kept stop) b.handed;
  latest = f.latest;
  sent = f.sent ∙ ap (grown (f.given ++ given_at stop)) c.sent ∙ grown_joined c.given f.given (given_at stop) l.sent;
  told = f.told ∙ ap (is_closed (over_of stop)) c.told;
  ended = f.ended;
  faults = f.faults ∙ ap (counted (fault_count (over_of stop))) c.faults;
  quiet = f.quiet ∙ ap (counted f.quiets) c.quiet ∙ counted-counted f.quiets c.quiets l.quiets;
  posts = f.posts ∙ ap (counted (length (f.texts ++ lost stop))) c.posts ∙ counted-counted _ _ b.posts ∙ ap (λ i. counted i b.posts) (
      let one = length-append c.texts [] in let two = length-append f.texts (lost stop) in
      let both = length-append (c.texts ++ f.texts) (lost stop) in let texts = length-append c.texts f.texts in
      let none : length {A = List ℕ} [] ≡ 0 = refl in omega (arith, one, two, both, texts, none));
  worked = f.worked ∙ ap (counted (many + turns_in stop)) c.worked ∙ counted-counted _ _ b.turns ∙ ap (λ i. counted i b.turns) (
      let sums : (n + turns_in Behind) + (many + turns_in stop) ≡ (n + many) + turns_in stop = omega arith in sums);
  fetched = f.fetched ∙ ap (counted (many + fetches_in stop)) c.fetched ∙ counted-counted _ _ b.fetches ∙ ap (λ i. counted i b.fetches) (
      let sums : (n + fetches_in Behind) + (many + fetches_in stop) ≡ (n + many) + fetches_in stop = omega arith in sums);
}

-- one more turn behind so many
pub turns_more : (n : ℕ) (l m k : LinkLog) (b d e : BoardLog) → Turns n l m b d → Course 1 Behind m k d e → Turns (n + 1) l k b e
turns_more n l m k b d e turns one =
    let more : n + 1 ≡ suc n = omega arith in
    rw more (m, d, turns, one)

-- all that was done in them
pub turns_course : (n : ℕ) (l m : LinkLog) (b d : BoardLog) → Turns n l m b d → Course n Behind l m b d
turns_course zero l m b d (link_is, board_is) = rw (link_is, board_is) (course_start l b)
turns_course (suc n) l k b e (m, d, turns, one) =
    let more : suc n ≡ n + 1 = omega arith in
    rw more (course_join n 1 Behind l m k b d e (turns_course n l m b d turns) one)

-- whole turns and then the one that ends the session
pub session_ends : (n : ℕ) (over : Over) (l m k : LinkLog) (b d e : BoardLog) → Turns n l m b d → Ends 0 over m k d e → Session over l k b e
session_ends n over l m k b d e turns f =
    let same : n + 0 ≡ n = omega arith in
    record {
      turns = n;
      ends = record { stop = f.stop; course = rw same at (course_join n 0 f.stop l m k b d e (turns_course n l m b d turns) f.course); over_is = f.over_is; limit = no_limit over f.limit };
      link_before = m;
      board_before = d;
      whole = turns;
      last = f.course;
    }
  where
    no_limit : (o : Over) → IsAtLimit o 0 → IsAtLimit o n
    no_limit Over.Closed p = tt
    no_limit Over.Failed p = tt
    no_limit Over.Memory p = tt
    no_limit Over.Turns p = absurd (omega (arith, p))

-- as many as there may be
pub session_whole : (n : ℕ) (l m : LinkLog) (b d : BoardLog) → n ≡ 4294967296 → Turns n l m b d → Session Over.Turns l m b d
session_whole n l m b d all turns = record {
  turns = n;
  ends = record { stop = Behind; course = turns_course n l m b d turns; over_is = refl; limit = all };
  link_before = m;
  board_before = d;
  whole = turns;
  last = course_start m d;
}

-- the frames up to the one at a place were given, and that one was refused
pub gave_front : (l m k : LinkLog) (frames : List (List ℕ)) (i : ℕ) (item : List ℕ) (fault : GiveFault) → i < length frames → item ≡ get_or frames i item
    → m ≡ record l { sent = grown (take i frames) l.sent } → k ≡ after_give m item (Err fault) → GaveFront frames fault l k
gave_front l m k frames i item fault lt is before now = record {
  given = take i frames;
  refused = item;
  rest = drop (i + 1) frames;
  frames_are = sym (take-append-drop (i + 1) frames) ∙ ap (λ list. list ++ drop (i + 1) frames) (take_more frames i item lt ∙ ap (λ x. take i frames ++ x ∷ []) (sym is))
      ∙ append_assoc (take i frames) (item ∷ []) (drop (i + 1) frames);
  link_is = now ∙ ap (λ n. after_give n item (Err fault)) before;
}
