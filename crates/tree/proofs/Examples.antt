-- Examples: the pools of the bench's cases C, E, G and H, each with its tree. k = 1, information 7.
use Prim.Native.Nat.{ℕ, zero, suc, ◌+◌, ◌≤◌, ◌<◌}
use mathlib.Core.Path.{◌≡◌, refl}
use mathlib.Core.List.{List, [], ◌∷◌, ◌++◌}
use native.Mathlib.Omega.{arith}
use Rattle.ground.specs.Limits.{word_range}
use Rattle.page.specs.Words.{Keyed, Entry, entry, free_page, flat, encode, pairs, view}
use Rattle.pool.specs.Pool.{pool_length, start, words_of, page_at}
use Rattle.tree.specs.Tree.{Tr, once, PoolForms}
use Rattle.tree.proofs.Memory.{once_other, once_is}

abbrev leaf : ℕ → List Entry → Tr 0
leaf p es = record { at = p; entries = es }

abbrev behind : ℕ → Tr 0 → Keyed (Tr 0)
behind x c = record { key = x; value = c }

-- ---- pages of a pool of three

-- pages 0, 1 and 2 are different,
three_different : (q : ℕ) → once q 0 + (once q 1 + (once q 2 + 0)) ≤ 1
three_different zero = omega arith
three_different (suc zero) = omega arith
three_different (suc (suc zero)) = omega arith
three_different (suc (suc (suc q))) =
    let a = once_other (suc (suc (suc q))) 0 (λ e. omega arith) in
    let b = once_other (suc (suc (suc q))) 1 (λ e. omega arith) in
    let c = once_other (suc (suc (suc q))) 2 (λ e. omega arith) in
    omega arith

-- below 3,
three_within : (q : ℕ) → 1 ≤ once q 0 + (once q 1 + (once q 2 + 0)) → q < 3
three_within zero h = omega arith
three_within (suc zero) h = omega arith
three_within (suc (suc zero)) h = omega arith
three_within (suc (suc (suc q))) h =
    let a = once_other (suc (suc (suc q))) 0 (λ e. omega arith) in
    let b = once_other (suc (suc (suc q))) 1 (λ e. omega arith) in
    let c = once_other (suc (suc (suc q))) 2 (λ e. omega arith) in
    absurd (omega arith)

-- and no other is
three_all : (q : ℕ) → q < 3 → once q 0 + (once q 1 + (once q 2 + 0)) ≡ 0 → ⊥
three_all zero h o = omega arith
three_all (suc zero) h o = omega arith
three_all (suc (suc zero)) h o = omega arith
three_all (suc (suc (suc q))) h o = omega arith

-- page 0 alone
one_different : (q : ℕ) → once q 0 ≤ 1
one_different zero = omega arith
one_different (suc q) = let a = once_other (suc q) 0 (λ e. omega arith) in omega arith

one_all : (q : ℕ) → q < 1 → once q 0 ≡ 0 → ⊥
one_all zero h o = omega arith
one_all (suc q) h o = omega arith

-- what holds of pages 0, 1 and 2 holds of each page below 3
each_of_three : (X : ℕ → Type 0) → X 0 → X 1 → X 2 → (q : ℕ) → q < 3 → X q
each_of_three X a b c zero h = a
each_of_three X a b c (suc zero) h = b
each_of_three X a b c (suc (suc zero)) h = c
each_of_three X a b c (suc (suc (suc q))) h = absurd (omega arith)

-- ---- C: "insert 10, 20: page 0 is 1,2,10,7,20,7,0."

abbrev pub words_c : List ℕ
words_c = 1 ∷ 2 ∷ 10 ∷ 7 ∷ 20 ∷ 7 ∷ 0 ∷ []

abbrev pub tree_c : Tr 0
tree_c = leaf 0 (entry 10 7 ∷ entry 20 7 ∷ [])

exact_c : (p : ℕ) → p < 1 → words_of 1 p words_c ≡ encode 1 (page_at 1 words_c p)
unfolding words_of start page_at view pairs encode flat
exact_c zero h = refl
exact_c (suc p) h = absurd (omega arith)

pub case_c : PoolForms 1 1 words_c 0 tree_c
unfolding pool_length words_of start page_at view pairs word_range
case_c = record {
  whole = refl;
  exact = exact_c;
  forms = record {
    root = refl;
    in_range = record { least = omega arith; most = omega arith; low = omega arith; rising = (omega arith, tt, (omega arith, tt, tt)) };
    holds = refl;
    different = one_different;
    within = λ q o. let e = once_is q 0 o in omega arith;
    others = λ q h o. absurd (one_all q h o);
  };
}

-- ---- E: "then 30, N = 3: page 0 is 2,1,1,20,2,0,0; page 1 is 1,1,10,7,0,0,0; page 2 is 1,2,20,7,30,7,0."

abbrev pub words_e : List ℕ
words_e = (2 ∷ 1 ∷ 1 ∷ 20 ∷ 2 ∷ 0 ∷ 0 ∷ []) ++ (1 ∷ 1 ∷ 10 ∷ 7 ∷ 0 ∷ 0 ∷ 0 ∷ []) ++ (1 ∷ 2 ∷ 20 ∷ 7 ∷ 30 ∷ 7 ∷ 0 ∷ [])

abbrev pub tree_e : Tr 1
tree_e = record { at = 0; row = behind 0 (leaf 1 (entry 10 7 ∷ [])) ∷ behind 20 (leaf 2 (entry 20 7 ∷ entry 30 7 ∷ [])) ∷ [] }

pub case_e : PoolForms 1 3 words_e 1 tree_e
unfolding pool_length words_of start page_at view pairs encode flat word_range
case_e = record {
  whole = refl;
  exact = each_of_three (λ (p : ℕ). words_of 1 p words_e ≡ encode 1 (page_at 1 words_e p)) refl refl refl;
  forms = record {
    root = refl;
    in_range = record {
      least = omega arith;
      most = omega arith;
      low = refl;
      children = (
        omega arith,
        record { least = omega arith; most = omega arith; low = omega arith; rising = (omega arith, tt, tt) },
        (
          omega arith,
          record { least = omega arith; most = omega arith; low = omega arith; rising = (omega arith, tt, (omega arith, tt, tt)) },
          tt,
        ),
      );
    };
    holds = (refl, (refl, (refl, tt)));
    different = three_different;
    within = three_within;
    others = λ q h o. absurd (three_all q h o);
  };
}

-- ---- G: "in E, delete 10: .. page 0 is 2,1,1,30,2,0,0; page 1 holds 20, page 2 holds 30."

abbrev pub words_g : List ℕ
words_g = (2 ∷ 1 ∷ 1 ∷ 30 ∷ 2 ∷ 0 ∷ 0 ∷ []) ++ (1 ∷ 1 ∷ 20 ∷ 7 ∷ 0 ∷ 0 ∷ 0 ∷ []) ++ (1 ∷ 1 ∷ 30 ∷ 7 ∷ 0 ∷ 0 ∷ 0 ∷ [])

abbrev pub tree_g : Tr 1
tree_g = record { at = 0; row = behind 0 (leaf 1 (entry 20 7 ∷ [])) ∷ behind 30 (leaf 2 (entry 30 7 ∷ [])) ∷ [] }

pub case_g : PoolForms 1 3 words_g 1 tree_g
unfolding pool_length words_of start page_at view pairs encode flat word_range
case_g = record {
  whole = refl;
  exact = each_of_three (λ (p : ℕ). words_of 1 p words_g ≡ encode 1 (page_at 1 words_g p)) refl refl refl;
  forms = record {
    root = refl;
    in_range = record {
      least = omega arith;
      most = omega arith;
      low = refl;
      children = (
        omega arith,
        record { least = omega arith; most = omega arith; low = omega arith; rising = (omega arith, tt, tt) },
        (
          omega arith,
          record { least = omega arith; most = omega arith; low = omega arith; rising = (omega arith, tt, tt) },
          tt,
        ),
      );
    };
    holds = (refl, (refl, (refl, tt)));
    different = three_different;
    within = three_within;
    others = λ q h o. absurd (three_all q h o);
  };
}

-- ---- H: "in G, delete 20: page 0 is 1,1,30,7,0,0,0; pages 1 and 2 all zero."

abbrev pub words_h : List ℕ
words_h = (1 ∷ 1 ∷ 30 ∷ 7 ∷ 0 ∷ 0 ∷ 0 ∷ []) ++ (0 ∷ 0 ∷ 0 ∷ 0 ∷ 0 ∷ 0 ∷ 0 ∷ []) ++ (0 ∷ 0 ∷ 0 ∷ 0 ∷ 0 ∷ 0 ∷ 0 ∷ [])

abbrev pub tree_h : Tr 0
tree_h = leaf 0 (entry 30 7 ∷ [])

pub case_h : PoolForms 1 3 words_h 0 tree_h
unfolding pool_length words_of start page_at view pairs encode flat word_range
case_h = record {
  whole = refl;
  exact = each_of_three (λ (p : ℕ). words_of 1 p words_h ≡ encode 1 (page_at 1 words_h p)) refl refl refl;
  forms = record {
    root = refl;
    in_range = record { least = omega arith; most = omega arith; low = omega arith; rising = (omega arith, tt, tt) };
    holds = refl;
    different = one_different;
    within = λ q o. let e = once_is q 0 o in omega arith;
    others = each_of_three (λ (q : ℕ). once q 0 ≡ 0 → page_at 1 words_h q ≡ free_page) (λ o. absurd (omega arith)) (λ o. refl) (λ o. refl);
  };
}
