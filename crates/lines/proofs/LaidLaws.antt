-- Laws of a word laid over a row of bytes: one byte more, and two words one behind the other.
use Prim.Native.Nat.{ℕ, suc, ◌+◌, ◌≤◌, ◌<◌}
use mathlib.Core.List.{List, [], ◌∷◌, ◌++◌, append_assoc}
use mathlib.Core.Path.{◌≡◌, sym, ap, ap₂, ◌∙◌}
use native.Mathlib.Numerals.{add-one}
use native.Mathlib.Omega.{arith}
use lib.ListN.{length, take, drop, set, length-append, length-set}
use lib.Seq.{length-take-le, take_at, drop_at, drop-drop, drop-cons, take-set-le, drop-set-lt, get_or-set_same, set_split, append_snoc}
use Rattle.lines.specs.Text.{laid}

module _ (out : List ℕ) (at : ℕ) where
  -- one byte is laid by a store
  pub laid_one : (b : ℕ) → at < length out → set out at b ≡ laid out at (b ∷ [])
  laid_one b h =
      set_split out at b h
      ∙ sym (append_snoc (take at out) b (drop (suc at) out))
      ∙ ap (λ (k : ℕ). take at out ++ (b ∷ []) ++ drop k out) (sym (add-one at))

  -- a store behind a word makes the word longer
  pub laid_snoc : (word : List ℕ) (b : ℕ) → at + length word < length out
      → laid (set out (at + length word) b) at word ≡ laid out at (word ++ (b ∷ []))
  laid_snoc word b h =
      let n : ℕ = at + length word in
      let stored : List ℕ = set out n b in
      let behind : drop n stored ≡ b ∷ drop (suc n) out =
      drop-cons stored n 0 (omega (arith, length-set out n b))
      ∙ ap₂ (λ (x : ℕ) (l : List ℕ). x ∷ l) (get_or-set_same out n b 0 h) (drop-set-lt (suc n) out n b (omega arith)) in
      let longer : suc n ≡ at + length (word ++ (b ∷ [])) = omega (arith, length-append word (b ∷ [])) in
      ap₂ (λ (l r : List ℕ). l ++ word ++ r) (take-set-le at out n b (omega arith)) behind
      ∙ sym (append_snoc (take at out ++ word) b (drop (suc n) out))
      ∙ ap₂ (λ (l : List ℕ) (k : ℕ). l ++ drop k out) (append_assoc (take at out) word (b ∷ [])) longer

  -- two words one behind the other are one word
  pub laid_laid : (v w : List ℕ) → at ≤ length out → laid (laid out at v) (at + length v) w ≡ laid out at (v ++ w)
  laid_laid v w h =
      let n : ℕ = at + length v in
      let long : length (take at out ++ v) ≡ n =
      length-append (take at out) v ∙ ap (λ (k : ℕ). k + length v) (length-take-le at out h) in
      let front : take n (laid out at v) ≡ take at out ++ v = take_at (take at out ++ v) (drop n out) n long in
      let behind : drop n (laid out at v) ≡ drop n out = drop_at (take at out ++ v) (drop n out) n long in
      let end : drop (n + length w) (laid out at v) ≡ drop (n + length w) out =
      sym (drop-drop (length w) n (laid out at v)) ∙ ap (drop (length w)) behind ∙ drop-drop (length w) n out in
      let both : n + length w ≡ at + length (v ++ w) = omega (arith, length-append v w) in
      ap₂ (λ (l r : List ℕ). l ++ w ++ r) front end
      ∙ ap₂ (λ (l : List ℕ) (k : ℕ). l ++ drop k out) (append_assoc (take at out) v w) both

-- a word written, and another behind it
pub laid_two : (out : List ℕ) (at : ℕ) (v w : List ℕ) {one two : List ℕ} {next : ℕ} → at ≤ length out → one ≡ laid out at v
    → next ≡ at + length v → two ≡ laid one next w → two ≡ laid out at (v ++ w)
laid_two out at v w h e n f = f ∙ ap₂ (λ (l : List ℕ) (k : ℕ). laid l k w) e n ∙ laid_laid out at v w h

-- the position behind both
pub behind_two : (at : ℕ) (v w : List ℕ) {next end : ℕ} → next ≡ at + length v → end ≡ next + length w → end ≡ at + length (v ++ w)
behind_two at v w n e = omega (arith, n, e, length-append v w)
