-- The best counts for an amount, when a few notes more of one unit are allowed.
use Rattle.std.proofs.Common.{◌≡◌, ℕ, ◌+◌, ◌*◌, ◌-◌, ◌≤◌, ◌<◌, List, Option, None, Some, length, get_or, set, sum, leb, arith, inl, inr, get_or-set_other, get_or-set_same}
use Rattle.std.proofs.lemmas.Bool.{cases_lt, cases_eq, cases_Bool, leb-true, leb-false}
use Rattle.std.proofs.lemmas.List.{length-set}
use Rattle.xfs_base.specs.declared.counts.Counts.{Counts}
use Rattle.xfs_base.specs.declared.money.NoteKind.{NoteKind}
use Rattle.xfs_base.specs.Counts.{at}
use Rattle.xfs_mix.specs.Mix.{IsMore, IsPassed, IsWithin, IsBest, IsTable, with_more, better_of}
use Rattle.xfs_mix.proofs.Raised.{value_more, raised_set, raised_back, sum_set, in_list}

-- counts within the old limits are within the new ones
wider : (ks : List NoteKind) (cur : List ℕ) (u n v : ℕ) (old new : Counts) → IsMore ks cur u n v old new → (a : ℕ) (m : Counts) → IsWithin ks old cur a m → IsWithin ks new cur a m
wider ks cur u n v old new more a m is = record {
  lies = λ w. elim (cases_eq w u) [
    | inl e ↦ rw e (omega (arith, is.lies u, more.raised.here))
    | inr ne ↦ rw (more.raised.others w ne) (is.lies w)
  ];
  worth = is.worth;
}

-- counts within the new limits are within the old ones, or have the notes to take n of them away
fits : (ks : List NoteKind) (cur : List ℕ) (u n v : ℕ) (old new : Counts) → IsMore ks cur u n v old new → (a : ℕ) (m : Counts) → IsWithin ks new cur a m → at m u ≤ at old u → IsWithin ks old cur a m
fits ks cur u n v old new more a m is le = record {
  lies = λ w. elim (cases_eq w u) [
    | inl e ↦ rw e le
    | inr ne ↦ rw (more.raised.others w ne) at (is.lies w)
  ];
  worth = is.worth;
}

abbrev fewer : Counts → ℕ → ℕ → Counts
fewer m u n = record { 0 = set m.0 u (at m u - n) }

fewer_is : (ks : List NoteKind) (cur : List ℕ) (u n v : ℕ) (old new : Counts) → IsMore ks cur u n v old new → (a : ℕ) (m : Counts) → IsWithin ks new cur a m → at old u < at m u
    → (n * v ≤ a) × IsWithin ks old cur (a - n * v) (fewer m u n) × (sum m.0 ≡ sum (fewer m u n).0 + n)
fewer_is ks cur u n v old new more a m is gt =
    let enough : n ≤ at m u = omega (arith, more.few, gt) in
    let in_m : u < length m.0 = in_list m.0 u (omega arith) in
    let back = raised_back m.0 u n in_m enough in
    let worth = value_more ks u n (fewer m u n) m cur more.kind back more.stands more.of in
    let total = is.worth in
    let price : 1000 * more.kind.value * n ≡ 1000 * (n * v) = rw more.worth (omega arith) in (
      omega (arith, worth, total, price),
      record {
        lies = λ w. elim (cases_eq w u) [
          | inl e ↦ rw e (rw (get_or-set_same m.0 u (at m u - n) 0 in_m) (omega (arith, is.lies u, more.raised.here)))
          | inr ne ↦ rw (get_or-set_other m.0 u w (at m u - n) 0 ne) (rw (more.raised.others w ne) at (is.lies w))
        ];
        worth = omega (arith, worth, total, price);
      },
      omega (arith, sum_set m.0 u (at m u - n) in_m),
    )

-- a mix with n notes more
added : (ks : List NoteKind) (cur : List ℕ) (u n v : ℕ) (old new : Counts) → IsMore ks cur u n v old new → (a : ℕ) (q : Counts) → n * v ≤ a → u < length q.0 → IsWithin ks old cur (a - n * v) q
    → IsWithin ks new cur a (with_more q u n) × (sum (with_more q u n).0 ≡ sum q.0 + n)
added ks cur u n v old new more a q le in_q is =
    let raise = raised_set q.0 u n in_q in
    let worth = value_more ks u n q (with_more q u n) cur more.kind raise more.stands more.of in
    let total = is.worth in
    let price : 1000 * more.kind.value * n ≡ 1000 * (n * v) = rw more.worth (omega arith) in (
      record {
        lies = λ w. elim (cases_eq w u) [
          | inl e ↦ rw e (omega (arith, is.lies u, more.raised.here, raise.here))
          | inr ne ↦ rw (more.raised.others w ne, raise.others w ne) (is.lies w)
        ];
        worth = omega (arith, worth, total, price);
      },
      omega (arith, sum_set q.0 u (at q u + n) in_q),
    )

-- an amount below the worth of the new notes has the same best counts
pub best_below : (ks : List NoteKind) (cur : List ℕ) (u n v : ℕ) (old new : Counts) → IsMore ks cur u n v old new → (a : ℕ) (o : Option Counts) → a < n * v → IsBest ks old cur a o → IsBest ks new cur a o
best_below ks cur u n v old new more a None lt best = λ m is. elim (cases_lt (at old u) (at m u)) [
  | inl gt ↦ omega (arith, lt, (fewer_is ks cur u n v old new more a m is gt).0)
  | inr le ↦ best m (fits ks cur u n v old new more a m is le)
]
best_below ks cur u n v old new more a (Some b) lt best = (
  best.0,
  wider ks cur u n v old new more a b best.1,
  λ m is. elim (cases_lt (at old u) (at m u)) [
    | inl gt ↦ absurd (omega (arith, lt, (fewer_is ks cur u n v old new more a m is gt).0))
    | inr le ↦ best.2 m (fits ks cur u n v old new more a m is le)
  ],
)

-- the better one is the best
pub best_more : (ks : List NoteKind) (cur : List ℕ) (u n v : ℕ) (old new : Counts) → IsMore ks cur u n v old new → (a : ℕ) (o p : Option Counts) → n * v ≤ a
    → u < 8 → IsBest ks old cur a o → IsBest ks old cur (a - n * v) p → IsBest ks new cur a (better_of u n o p)
best_more ks cur u n v old new more a None None le in_q best none = λ m is. elim (cases_lt (at old u) (at m u)) [
  | inl gt ↦ none _ ((fewer_is ks cur u n v old new more a m is gt).1)
  | inr fit ↦ best m (fits ks cur u n v old new more a m is fit)
]
best_more ks cur u n v old new more a (Some b) None le in_q best none = (
  best.0,
  wider ks cur u n v old new more a b best.1,
  λ m is. elim (cases_lt (at old u) (at m u)) [
    | inl gt ↦ absurd (none _ ((fewer_is ks cur u n v old new more a m is gt).1))
    | inr fit ↦ best.2 m (fits ks cur u n v old new more a m is fit)
  ],
)
best_more ks cur u n v old new more a None (Some q) le in_q best some =
    let new_one = added ks cur u n v old new more a q le (omega (arith, in_q, some.0)) some.1 in (
      rw length-set some.0,
      new_one.0,
      λ m is. elim (cases_lt (at old u) (at m u)) [
        | inl gt ↦
            let less = fewer_is ks cur u n v old new more a m is gt in
            omega (arith, new_one.1, less.2, some.2 _ less.1)
        | inr fit ↦ absurd (best m (fits ks cur u n v old new more a m is fit))
      ],
    )
best_more ks cur u n v old new more a (Some b) (Some q) le in_q best some =
    let new_one = added ks cur u n v old new more a q le (omega (arith, in_q, some.0)) some.1 in
    elim (cases_Bool (leb (sum b.0) (sum (with_more q u n).0))) [
      | inl y ↦ rw y (
        best.0,
        wider ks cur u n v old new more a b best.1,
        λ m is. elim (cases_lt (at old u) (at m u)) [
          | inl gt ↦
              let less = fewer_is ks cur u n v old new more a m is gt in
              omega (arith, leb-true _ _ y, new_one.1, less.2, some.2 _ less.1)
          | inr fit ↦ best.2 m (fits ks cur u n v old new more a m is fit)
        ],
      )
      | inr no_less ↦ rw no_less (
        rw length-set some.0,
        new_one.0,
        λ m is. elim (cases_lt (at old u) (at m u)) [
          | inl gt ↦
              let less = fewer_is ks cur u n v old new more a m is gt in
              omega (arith, new_one.1, less.2, some.2 _ less.1)
          | inr fit ↦ omega (arith, leb-false _ _ no_less, new_one.1, best.2 m (fits ks cur u n v old new more a m is fit))
        ],
      )
    ]

pub passed_one : (ks : List NoteKind) (cur : List ℕ) (u n v : ℕ) (old new : Counts) → IsMore ks cur u n v old new → (a : ℕ) (table : List (Option Counts))
    → u < 8 → n * v ≤ a → a < length table → IsPassed ks cur old new (a + 1) table
    → IsPassed ks cur old new a (set table a (better_of u n (get_or table a None) (get_or table (a - n * v) None)))
passed_one ks cur u n v old new more a table in_q le within passed =
    let o = get_or table a None in
    let p = get_or table (a - n * v) None in
    let best_r : IsBest ks new cur a (better_of u n o p) = best_more ks cur u n v old new more a o p le in_q (passed.left a None (omega arith) within) (passed.left (a - n * v) None (omega arith) (omega arith)) in
    record {
      done = λ b d ge in_table. elim (cases_eq b a) [
        | inl e ↦ rw e (rw (get_or-set_same table a (better_of u n o p) d within) best_r)
        | inr ne ↦ rw (get_or-set_other table a b (better_of u n o p) d ne) (passed.done b d (omega (arith, ge, ne)) (rw length-set at in_table))
      ];
      left = λ b d lt in_table. rw (get_or-set_other table a b (better_of u n o p) d (λ e. omega (arith, e, lt))) (passed.left b d (omega arith) (rw length-set at in_table));
    }

-- the whole table, once the amounts below the worth of the new notes are left
pub passed_all : (ks : List NoteKind) (cur : List ℕ) (u n v : ℕ) (old new : Counts) → IsMore ks cur u n v old new → (a : ℕ) (table : List (Option Counts)) → a ≤ n * v
    → IsPassed ks cur old new a table → IsTable ks new cur table
passed_all ks cur u n v old new more a table le passed = λ b d in_table. elim (cases_lt b a) [
  | inl lt ↦ best_below ks cur u n v old new more b (get_or table b d) (omega arith) (passed.left b d lt in_table)
  | inr ge ↦ passed.done b d ge in_table
]

pub passed_none : (ks : List NoteKind) (cur : List ℕ) (old new : Counts) (table : List (Option Counts)) → IsTable ks old cur table → IsPassed ks cur old new (length table) table
passed_none ks cur old new table is = record {
  done = λ b d ge in_table. absurd (omega (arith, ge, in_table));
  left = λ b d lt in_table. is b d in_table;
}
