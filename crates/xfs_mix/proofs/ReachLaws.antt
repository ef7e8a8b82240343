-- What is reached once a unit's notes are allowed: one note less leads to an amount that is reached too.
use Rattle.std.proofs.Common.{◌≡◌, ℕ, zero, suc, ◌+◌, ◌*◌, ◌-◌, ◌≤◌, ◌<◌, List, ◌∷◌, Option, None, Some, length, get_or, set, ltb, replicate, is_some, MatchOption, refl, arith, inl, inr, get_or-set_other, get_or-set_same}
use Rattle.std.proofs.lemmas.Bool.{cases_lt, cases_eq, cases_Bool, ltb-true, ltb-false}
use Rattle.std.proofs.lemmas.List.{length-set, length-replicate, get_or-replicate}
use Rattle.xfs_base.specs.declared.counts.Counts.{Counts}
use Rattle.xfs_base.specs.declared.money.NoteKind.{NoteKind}
use Rattle.xfs_base.specs.Counts.{at}
use Rattle.xfs_mix.specs.Mix.{IsWithin, usable, with_more, none_yet}
use Rattle.xfs_mix.specs.Reach.{IsReached, IsOutOfReach, IsInReach, IsReachTable, NeedsOf, IsLeastUse, IsOpened, IsUsedTo, least_use}
use Rattle.xfs_mix.proofs.First.{within_none, none_for_more}
use Rattle.xfs_mix.proofs.Raised.{value_more, raised_set, raised_back, in_list}

-- counts without the unit's notes are within the new limits too
wider : (ks : List NoteKind) (cur : List ℕ) (u c v : ℕ) (old new : Counts) → IsOpened ks cur u c v old new → (a : ℕ) (m : Counts) → IsWithin ks old cur a m → IsWithin ks new cur a m × (at m u ≡ 0)
wider ks cur u c v old new opened a m is = (
  record {
    lies = λ w. elim (cases_eq w u) [
      | inl e ↦ rw e (omega (arith, is.lies u, opened.raised.here))
      | inr ne ↦ rw (opened.raised.others w ne) (is.lies w)
    ];
    worth = is.worth;
  },
  omega (arith, is.lies u, opened.none),
)

-- counts within the new limits that have none of the unit's notes are within the old ones
without : (ks : List NoteKind) (cur : List ℕ) (u c v : ℕ) (old new : Counts) → IsOpened ks cur u c v old new → (a : ℕ) (m : Counts) → IsWithin ks new cur a m → at m u ≤ 0 → IsWithin ks old cur a m
without ks cur u c v old new opened a m is none = record {
  lies = λ w. elim (cases_eq w u) [
    | inl e ↦ rw e (omega (arith, none))
    | inr ne ↦ rw (opened.raised.others w ne) at (is.lies w)
  ];
  worth = is.worth;
}

abbrev one_fewer : Counts → ℕ → Counts
one_fewer m u = record { 0 = set m.0 u (at m u - 1) }

-- counts with a note of the unit, without one
record IsOneFewer (ks : List NoteKind) (cur : List ℕ) (u v : ℕ) (new : Counts) (a : ℕ) (m : Counts) : Type 0 where
  enough : v ≤ a
  within : IsWithin ks new cur (a - v) (one_fewer m u)
  uses : at (one_fewer m u) u + 1 ≡ at m u

fewer_is : (ks : List NoteKind) (cur : List ℕ) (u c v : ℕ) (old new : Counts) → IsOpened ks cur u c v old new → (a : ℕ) (m : Counts) → IsWithin ks new cur a m → 0 < at m u → IsOneFewer ks cur u v new a m
fewer_is ks cur u c v old new opened a m is some =
    let in_m : u < length m.0 = in_list m.0 u some in
    let back = raised_back m.0 u 1 in_m (omega (arith, some)) in
    let worth = value_more ks u 1 (one_fewer m u) m cur opened.kind back opened.stands opened.of in
    let total = is.worth in
    let price : 1000 * opened.kind.value * 1 ≡ 1000 * v = rw opened.worth (omega arith) in
    let here = get_or-set_same m.0 u (at m u - 1) 0 in_m in
    record {
      enough = omega (arith, worth, total, price);
      within = record {
        lies = λ w. elim (cases_eq w u) [
          | inl e ↦ rw e (omega (arith, here, is.lies u))
          | inr ne ↦ rw (get_or-set_other m.0 u w (at m u - 1) 0 ne) (is.lies w)
        ];
        worth = omega (arith, worth, total, price);
      };
      uses = omega (arith, here, some);
    }

-- counts with a note of the unit more
more_is : (ks : List NoteKind) (cur : List ℕ) (u c v : ℕ) (old new : Counts) → IsOpened ks cur u c v old new → (a : ℕ) (q : Counts) → v ≤ a → length q.0 ≡ 8 → u < 8 → at q u < c → IsWithin ks new cur (a - v) q
    → IsWithin ks new cur a (with_more q u 1) × (at (with_more q u 1) u ≡ at q u + 1)
more_is ks cur u c v old new opened a q le eight in_eight some is =
    let raise = raised_set q.0 u 1 (omega (arith, eight, in_eight)) in
    let worth = value_more ks u 1 q (with_more q u 1) cur opened.kind raise opened.stands opened.of in
    let total = is.worth in
    let price : 1000 * opened.kind.value * 1 ≡ 1000 * v = rw opened.worth (omega arith) in (
      record {
        lies = λ w. elim (cases_eq w u) [
          | inl e ↦ rw e (omega (arith, opened.none, opened.raised.here, raise.here, some))
          | inr ne ↦ rw (raise.others w ne) (is.lies w)
        ];
        worth = omega (arith, worth, total, price);
      },
      raise.here,
    )

-- an amount that is reached without the unit needs none of its notes
use_none : (ks : List NoteKind) (cur : List ℕ) (u c v : ℕ) (old new : Counts) → IsOpened ks cur u c v old new → (a : ℕ) → IsInReach ks old cur a → NeedsOf ks new cur u a 0
use_none ks cur u c v old new opened a is =
    let wide = wider ks cur u c v old new opened a is.counts is.within in
    record {
      reach = record { counts = is.counts; eight = is.eight; within = wide.0 };
      uses = wide.1;
      fewest = λ n within. omega arith;
    }

-- an amount that isn't, and is no amount with a note more, isn't reached
use_past : (ks : List NoteKind) (cur : List ℕ) (u c v : ℕ) (old new : Counts) → IsOpened ks cur u c v old new → (a : ℕ) → IsOutOfReach ks old cur a → (v ≤ a → IsOutOfReach ks new cur (a - v)) → IsOutOfReach ks new cur a
use_past ks cur u c v old new opened a out less n is = elim (cases_lt 0 (at n u)) [
  | inl some ↦
      let fewer = fewer_is ks cur u c v old new opened a n is some in
      less fewer.enough _ fewer.within
  | inr none ↦ out n (without ks cur u c v old new opened a n is none)
]

-- one that isn't needs one note more than the amount without it, if there are as many
use_more : (ks : List NoteKind) (cur : List ℕ) (u c v : ℕ) (old new : Counts) → IsOpened ks cur u c v old new → u < 8 → (a k : ℕ) → v ≤ a → IsOutOfReach ks old cur a → NeedsOf ks new cur u (a - v) k
    → IsLeastUse ks new cur u a (least_use c None (Some k))
use_more ks cur u c v old new opened in_eight a k le out needs = elim (cases_Bool (ltb k c)) [
  | inl y ↦
      let more = more_is ks cur u c v old new opened a needs.reach.counts le needs.reach.eight in_eight (omega (arith, needs.uses, ltb-true _ _ y)) needs.reach.within in
      rw y record {
        reach = record { counts = with_more needs.reach.counts u 1; eight = rw length-set needs.reach.eight; within = more.0 };
        uses = omega (arith, more.1, needs.uses);
        fewest = λ n is. elim (cases_lt 0 (at n u)) [
          | inl some ↦
              let fewer = fewer_is ks cur u c v old new opened a n is some in
              omega (arith, fewer.uses, needs.fewest _ fewer.within)
          | inr none ↦ absurd (out n (without ks cur u c v old new opened a n is none))
        ];
      }
  | inr all_used ↦ rw all_used (λ n is. elim (cases_lt 0 (at n u)) [
    | inl some ↦
        let fewer = fewer_is ks cur u c v old new opened a n is some in
        omega (arith, fewer.uses, needs.fewest _ fewer.within, ltb-false _ _ all_used, is.lies u, opened.none, opened.raised.here)
    | inr none ↦ out n (without ks cur u c v old new opened a n is none)
  ])
]

abbrev Known : List NoteKind → Counts → List ℕ → ℕ → Option ℕ → Type 0
Known ks limits cur a o = MatchOption o (IsOutOfReach ks limits cur a) (λ k. IsInReach ks limits cur a)

-- an amount below the note's value
pub use_below : (ks : List NoteKind) (cur : List ℕ) (u c v : ℕ) (old new : Counts) → IsOpened ks cur u c v old new → (a : ℕ) (o : Option ℕ) → a < v → Known ks old cur a o → IsLeastUse ks new cur u a (least_use c o None)
use_below ks cur u c v old new opened a (Some k) lt is = use_none ks cur u c v old new opened a is
use_below ks cur u c v old new opened a None lt out = use_past ks cur u c v old new opened a out (λ le. absurd (omega (arith, lt, le)))

-- and one that isn't
pub use_from : (ks : List NoteKind) (cur : List ℕ) (u c v : ℕ) (old new : Counts) → IsOpened ks cur u c v old new → u < 8 → (a : ℕ) (o p : Option ℕ) → v ≤ a → Known ks old cur a o → IsLeastUse ks new cur u (a - v) p
    → IsLeastUse ks new cur u a (least_use c o p)
use_from ks cur u c v old new opened in_eight a (Some k) p le is less = use_none ks cur u c v old new opened a is
use_from ks cur u c v old new opened in_eight a None None le out less = use_past ks cur u c v old new opened a out (λ _. less)
use_from ks cur u c v old new opened in_eight a None (Some k) le out less = use_more ks cur u c v old new opened in_eight a k le out less

pub used_more : (ks : List NoteKind) (cur : List ℕ) (u : ℕ) (old new : Counts) (a : ℕ) (table : List (Option ℕ)) (o : Option ℕ) → a < length table → IsLeastUse ks new cur u a o
    → IsUsedTo ks cur u old new a table → IsUsedTo ks cur u old new (a + 1) (set table a o)
used_more ks cur u old new a table o within use_is used = record {
  done = λ b d lt in_table. elim (cases_eq b a) [
    | inl e ↦ rw e (rw (get_or-set_same table a o d within) use_is)
    | inr ne ↦ rw (get_or-set_other table a b o d ne) (used.done b d (omega (arith, lt, ne)) (rw length-set at in_table))
  ];
  left = λ b d ge in_table. rw (get_or-set_other table a b o d (λ e. omega (arith, e, ge))) (used.left b d (omega (arith, ge)) (rw length-set at in_table));
}

pub used_none : (ks : List NoteKind) (cur : List ℕ) (u : ℕ) (old new : Counts) (table : List (Option ℕ)) → IsReachTable ks old cur table → IsUsedTo ks cur u old new 0 table
used_none ks cur u old new table is = record {
  done = λ b d lt in_table. absurd (omega (arith, lt));
  left = λ b d ge in_table. is b d in_table;
}

known : (ks : List NoteKind) (cur : List ℕ) (u : ℕ) (new : Counts) (a : ℕ) (o : Option ℕ) → IsLeastUse ks new cur u a o → Known ks new cur a o
known ks cur u new a None out = out
known ks cur u new a (Some k) needs = needs.reach

pub used_all : (ks : List NoteKind) (cur : List ℕ) (u : ℕ) (old new : Counts) (a : ℕ) (table : List (Option ℕ)) → length table ≤ a → IsUsedTo ks cur u old new a table → IsReachTable ks new cur table
used_all ks cur u old new a table all used = λ b d in_table. known ks cur u new b (get_or table b d) (used.done b d (omega (arith, all, in_table)) in_table)

pub used_first : (ks : List NoteKind) (cur : List ℕ) (n : ℕ) → IsReachTable ks none_yet cur (Some 0 ∷ replicate n None)
used_first ks cur n zero d within = record { counts = none_yet; eight = refl; within = within_none ks cur }
used_first ks cur n (suc b) d within =
    rw (get_or-replicate n b None d (omega (arith, rw length-replicate at within))) (λ m h. none_for_more ks cur (suc b) m (omega arith) h)

-- within limits that are what may be used, counts are mixes
pub reached_is : (ks : List NoteKind) (have limits : Counts) (cur : List ℕ) (a : ℕ) (o : Option ℕ) → ((u : ℕ) → at limits u ≡ usable ks have cur u) → Known ks limits cur a o → IsReached ks have cur a (is_some o)
reached_is ks have limits cur a None same out = λ n is. out n record { lies = λ u. rw (same u) (is.within u); worth = is.worth }
reached_is ks have limits cur a (Some k) same reach = (reach.counts, record { within = λ u. rw (← same u) (reach.within.lies u); worth = reach.within.worth })
