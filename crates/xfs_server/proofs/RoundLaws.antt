-- The parts of a round, and rounds one behind the other.
use Rattle.std.proofs.Common.{◌≡◌, ℕ, ◌+◌, ◌≤◌, List, [], ◌++◌, length, true, false, None, Some, Err, refl, ap, sym, ◌∙◌, append_assoc, arith}
use Rattle.std.specs.Prelude.{option_map}
use Rattle.std.specs.declared.option.Option.{Option}
use Rattle.std.proofs.lemmas.List.{append-nil, length-append}
use Rattle.xfs_base.specs.Causes.{Rose, next_count}
use Rattle.xfs_base.specs.declared.faults.Memory.{Memory}
use Rattle.xfs_mech.specs.Watches.{Hands}
use Rattle.xfs_mech.specs.declared.touch.News.{News}
use Rattle.xfs_mech.specs.declared.touch.Touch.{Touch}
use Rattle.xfs_server.specs.Counted.{counted, grown}
use Rattle.xfs_server.specs.Tendeds.{TendedLog, after_wants, after_closing, after_touch, after_work, CountsFault}
use Rattle.xfs_server.specs.Workers.{Halt, Rounds, Halts, Tending, Sensed, Unsensed, is_closing, lost, faults_in, turns_in, begun, Between, AtClosing, AtTouch, AtWork}
use Rattle.xfs_server.specs.declared.worker.Over2.{Over2}
use Rattle.xfs_server.proofs.Counts.{grown-grown, grown-nil, counted-counted, none_taken, coming-coming, counted-none, counted-told, counted-le}
use Rattle.xfs_server.proofs.Watched.{touch_first, quiet_same, quiet_end, failed_same, quiet_join}

pub sensed_unwanted : (c : Option (List Touch)) (f : ℕ) (b d : TendedLog) → d ≡ after_wants b false → Sensed c c f f b d
sensed_unwanted c f b d e = rw e record {
  touched = [];
  failures = 0;
  quiets = 0;
  unwanted = 1;
  raised = 0;
  one = refl;
  few = omega arith;
  news = none_taken c;
  quiet = tt;
  watch_failed = omega arith;
  board_is = rw (grown-nil b.touched, counted-none b.faults, counted-none b.wanted) refl;
}

pub sensed_quiet : (c k : Option (List Touch)) (f g : ℕ) (b d : TendedLog) → d ≡ after_wants b true → Hands c News.Quiet k → f ≤ g → Sensed c k f g b d
sensed_quiet c k f g b d e hands le = rw e record {
  touched = [];
  failures = 0;
  quiets = 1;
  unwanted = 0;
  raised = 0;
  one = refl;
  few = omega arith;
  news = quiet_same c k hands ∙ none_taken k;
  quiet = quiet_end c k hands;
  watch_failed = le;
  board_is = rw (grown-nil b.touched, counted-none b.faults, counted-none b.unwanted) refl;
}

pub sensed_failed : (c k : Option (List Touch)) (f g : ℕ) (b d e : TendedLog) → d ≡ after_wants b true → Hands c News.Failed k → Rose f g → CountsFault d e → Sensed c k f g b e
sensed_failed c k f g b d e is hands rose counts = rw (counts.log, is) record {
  touched = [];
  failures = 1;
  quiets = 0;
  unwanted = 0;
  raised = counts.raised;
  one = refl;
  few = counts.once;
  news = failed_same c k hands ∙ none_taken k;
  quiet = tt;
  watch_failed = rose;
  board_is = let none : 0 + counts.raised ≡ counts.raised = omega arith in rw (grown-nil b.touched, counted-none b.unwanted, none) refl;
}

pub unsensed_touch : (c k : Option (List Touch)) (f g : ℕ) (b d e : TendedLog) (touch : Touch) (want : Memory) → d ≡ after_wants b true → Hands c (News.Touch touch) k → f ≤ g
    → e ≡ after_touch d touch (Err want) → Unsensed c k f g b e
unsensed_touch c k f g b d e touch want is hands le made = rw (made, is) record {
  halt = AtTouch touch;
  raised = 0;
  over_is = refl;
  unturned = refl;
  is_begun = refl;
  open_still = λ before. refl;
  one = refl;
  few = omega arith;
  news = touch_first c k touch hands;
  watch_failed = le;
  board_is = rw (counted-none b.faults) refl;
}

pub halts_closing : (c : Option (List Touch)) (f : ℕ) (b d : TendedLog) → d ≡ after_closing b true → Halts 0 Over2.Done c c f f b d
halts_closing c f b d e = rw e record {
  halt = AtClosing;
  over_is = refl;
  course = record {
    touched = [];
    failures = 0;
    quiets = 0;
    unwanted = 0;
    raised = 0;
    each = refl;
    few = omega arith;
    news = none_taken c;
    quiet = tt;
    watch_failed = omega arith;
    made = sym (grown-nil b.touched);
    told = sym (counted-none b.faults);
    asked = sym (counted-none b.wanted);
    unasked = sym (counted-none b.unwanted);
    stayed = sym (counted-none b.stays);
    closing = refl;
    counts = refl;
    turned = refl;
  };
}

pub halts_unsensed : (c k : Option (List Touch)) (f g : ℕ) (b d e : TendedLog) → d ≡ after_closing b false → Unsensed c k f g d e → Halts 0 Over2.Memory c k f g b e
halts_unsensed c k f g b d e is u = record {
  halt = u.halt;
  over_is = u.over_is;
  course = record {
    touched = [];
    failures = 0;
    quiets = 0;
    unwanted = 0;
    raised = u.raised;
    each = sym (zero_plus (turns_in u.halt) ∙ u.unturned);
    few = rw (zero_plus (faults_in u.halt)) u.few;
    news = u.news;
    quiet = tt;
    watch_failed = rw (zero_plus (faults_in u.halt)) u.watch_failed;
    made = ap (λ l. l.touched) u.board_is ∙ ap (λ l. l.touched) is ∙ sym (grown-nil b.touched);
    told = rw (zero_plus (faults_in u.halt)) (ap (λ l. l.faults) u.board_is ∙ ap (λ l. option_map (counted (faults_in u.halt)) l.faults) is);
    asked = let all : length (lost u.halt) + (0 + faults_in u.halt) + 0 ≡ 1 = let one = u.one in omega (arith, one) in
        rw all (ap (λ l. l.wanted) u.board_is ∙ ap (λ l. option_map (counted 1) l.wanted) is);
    unasked = ap (λ l. l.unwanted) u.board_is ∙ ap (λ l. l.unwanted) is ∙ sym (counted-none b.unwanted);
    stayed = let all : 0 + begun u.halt ≡ 1 = zero_plus (begun u.halt) ∙ u.is_begun in rw all (ap (λ l. l.stays) u.board_is ∙ ap (λ l. l.stays) is);
    closing = ap (λ l. l.closing) u.board_is ∙ ap (λ l. l.closing) is ∙ sym (u.open_still b.closing);
    counts = ap (λ l. l.touches) u.board_is ∙ ap (λ l. counted (length (lost u.halt) + u.raised) l.touches) is;
    turned = let none : 0 + turns_in u.halt ≡ 0 = zero_plus (turns_in u.halt) ∙ u.unturned in rw none (ap (λ l. l.turns) u.board_is ∙ ap (λ l. l.turns) is);
  };
}
  where
    zero_plus : (n : ℕ) → 0 + n ≡ n
    zero_plus n = omega arith

pub round_whole : (c k : Option (List Touch)) (f g : ℕ) (b d e h : TendedLog) → d ≡ after_closing b false → Sensed c k f g d e → h ≡ after_work e → Rounds 1 Between c k f g b h
round_whole c k f g b d e h is s work = rw work record {
  touched = s.touched;
  failures = s.failures;
  quiets = s.quiets;
  unwanted = s.unwanted;
  raised = s.raised;
  each = s.one;
  few = let few = s.few in omega (arith, few);
  news = s.news;
  quiet = s.quiet;
  watch_failed = let none : s.failures + 0 ≡ s.failures = omega arith in rw none s.watch_failed;
  made = ap (λ l. l.touched) s.board_is ∙ ap (λ l. grown s.touched l.touched) is;
  told = let none : s.failures + 0 ≡ s.failures = omega arith in rw none (ap (λ l. l.faults) s.board_is ∙ ap (λ l. option_map (counted s.failures) l.faults) is);
  asked = let none : s.failures + 0 ≡ s.failures = omega arith in rw (none, append-nil s.touched)
      (ap (λ l. l.wanted) s.board_is ∙ ap (λ l. option_map (counted (length s.touched + s.failures + s.quiets)) l.wanted) is);
  unasked = ap (λ l. l.unwanted) s.board_is ∙ ap (λ l. option_map (counted s.unwanted) l.unwanted) is;
  stayed = ap (λ l. l.stays) s.board_is ∙ ap (λ l. l.stays) is;
  closing = ap (λ l. l.closing) s.board_is ∙ ap (λ l. l.closing) is;
  counts = rw (append-nil s.touched) (ap (λ l. l.touches) s.board_is ∙ ap (λ l. counted (length s.touched + s.raised) l.touches) is);
  turned = ap (λ l. next_count l.turns) s.board_is ∙ ap (λ l. next_count l.turns) is;
}

pub halts_work : (c k : Option (List Touch)) (f g : ℕ) (b d e h : TendedLog) → d ≡ after_closing b false → Sensed c k f g d e → h ≡ after_work e → Halts 0 Over2.Memory c k f g b h
halts_work c k f g b d e h is s work = let whole = round_whole c k f g b d e h is s work in record {
  halt = AtWork;
  over_is = refl;
  course = record {
    touched = whole.touched;
    failures = whole.failures;
    quiets = whole.quiets;
    unwanted = whole.unwanted;
    raised = whole.raised;
    each = whole.each;
    few = whole.few;
    news = whole.news;
    quiet = whole.quiet;
    watch_failed = whole.watch_failed;
    made = whole.made;
    told = whole.told;
    asked = whole.asked;
    unasked = whole.unasked;
    stayed = whole.stayed;
    closing = whole.closing;
    counts = whole.counts;
    turned = whole.turned;
  };
}

-- before the first round
pub rounds_start : (c : Option (List Touch)) (f : ℕ) (b : TendedLog) → Rounds 0 Between c c f f b b
rounds_start c f b = record {
  touched = [];
  failures = 0;
  quiets = 0;
  unwanted = 0;
  raised = 0;
  each = refl;
  few = omega arith;
  news = none_taken c;
  quiet = tt;
  watch_failed = omega arith;
  made = sym (grown-nil b.touched);
  told = sym (counted-none b.faults);
  asked = sym (counted-none b.wanted);
  unasked = sym (counted-none b.unwanted);
  stayed = sym (counted-none b.stays);
  closing = refl;
  counts = refl;
  turned = refl;
}

pub rounds_join : (n many : ℕ) (halt : Halt) (a c k : Option (List Touch)) (e f g : ℕ) (b d h : TendedLog) → Rounds n Between a c e f b d → Rounds many halt c k f g d h
    → Rounds (n + many) halt a k e g b h
rounds_join n many halt a c k e f g b d h p q = record {
  touched = p.touched ++ q.touched;
  failures = p.failures + q.failures;
  quiets = p.quiets + q.quiets;
  unwanted = p.unwanted + q.unwanted;
  raised = p.raised + q.raised;
  each = let long = length-append p.touched q.touched in let first = p.each in let second = q.each in omega (arith, long, first, second);
  few = let first = p.few in let second = q.few in omega (arith, first, second);
  news = coming-coming p.touched q.touched (lost halt) a c k p.news q.news;
  quiet = quiet_join p.quiets q.quiets (q.touched ++ lost halt) c k p.quiet (q.news ∙ grouped k) q.quiet;
  watch_failed = rw (← failures_are) (
      let later = counted-le (q.failures + faults_in halt) (counted (p.failures + 0) e) f p.watch_failed in let last = q.watch_failed in
      let both = counted-counted (q.failures + faults_in halt) (p.failures + 0) e in omega (arith, later, last, both));
  made = q.made ∙ ap (grown q.touched) p.made ∙ grown-grown p.touched q.touched b.touched;
  told = rw (← failures_are) (q.told ∙ ap (option_map (counted (q.failures + faults_in halt))) p.told ∙ counted-told (q.failures + faults_in halt) (p.failures + 0) b.faults);
  asked = q.asked ∙ ap (option_map (counted (length (q.touched ++ lost halt) + (q.failures + faults_in halt) + q.quiets))) p.asked ∙ counted-told _ _ b.wanted
      ∙ ap (λ i. option_map (counted i) b.wanted) (
      let one = length-append p.touched [] in let two = length-append q.touched (lost halt) in
      let both = length-append (p.touched ++ q.touched) (lost halt) in let touches = length-append p.touched q.touched in
      let none : length {A = Touch} [] ≡ 0 = refl in omega (arith, one, two, both, touches, none));
  unasked = q.unasked ∙ ap (option_map (counted q.unwanted)) p.unasked ∙ counted-told q.unwanted p.unwanted b.unwanted;
  stayed = q.stayed ∙ ap (option_map (counted (many + begun halt))) p.stayed ∙ counted-told _ _ b.stays
      ∙ ap (λ i. option_map (counted i) b.stays) (let sums : (n + begun Between) + (many + begun halt) ≡ (n + many) + begun halt = omega arith in sums);
  closing = q.closing ∙ ap (is_closing halt) p.closing;
  counts = q.counts ∙ ap (counted (length (q.touched ++ lost halt) + q.raised)) p.counts ∙ counted-counted _ _ b.touches
      ∙ ap (λ i. counted i b.touches) (
      let one = length-append p.touched [] in let two = length-append q.touched (lost halt) in
      let both = length-append (p.touched ++ q.touched) (lost halt) in let touches = length-append p.touched q.touched in
      let none : length {A = Touch} [] ≡ 0 = refl in omega (arith, one, two, both, touches, none));
  turned = q.turned ∙ ap (counted (many + turns_in halt)) p.turned ∙ counted-counted _ _ b.turns
      ∙ ap (λ i. counted i b.turns) (let sums : (n + turns_in Between) + (many + turns_in halt) ≡ (n + many) + turns_in halt = omega arith in sums);
}
  where
    failures_are : (p.failures + 0) + (q.failures + faults_in halt) ≡ (p.failures + q.failures) + faults_in halt
    failures_are = omega arith

    grouped : (o : Option (List Touch)) → option_map (λ rest. q.touched ++ (lost halt ++ rest)) o ≡ option_map (λ rest. (q.touched ++ lost halt) ++ rest) o
    grouped None = refl
    grouped (Some list) = ap Some (sym (append_assoc q.touched (lost halt) list))

pub tending_halts : (n : ℕ) (over : Over2) (a c k : Option (List Touch)) (e f g : ℕ) (b d h : TendedLog) → Rounds n Between a c e f b d → Halts 0 over c k f g d h
    → Tending over a k e g b h
tending_halts n over a c k e f g b d h p q = record {
  rounds = n + 0;
  halts = record { halt = q.halt; course = rounds_join n 0 q.halt a c k e f g b d h p q.course; over_is = q.over_is };
}
