-- Bytes gathered one after another.
use Rattle.std.proofs.Common.{◌≡◌, ℕ, ◌+◌, ◌<◌, ◌≤◌, cond, ltb, List, [], ◌∷◌, ◌++◌, length, take, drop, get_or, refl, sym, ◌∙◌, ap, arith, suc, set, add-one, drop-cons}
use lib.ListN.{length-set}
use Rattle.std.proofs.lemmas.List.{drop_all, take_more_set, length-take-le}
use Rattle.lines.specs.Decimal.{decimal}
use Rattle.lines.proofs.Decimals.{decimal_one}
use Rattle.tape.specs.Gathered.{one_more, gather, spelled}

-- bytes after bytes
pub gather_twice : (held xs ys : List ℕ) → gather (gather held xs) ys ≡ gather held (xs ++ ys)
unfolding gather
gather_twice held [] ys = refl
gather_twice held (x ∷ xs) ys = gather_twice (one_more held x) xs ys

pub gather_none : (held : List ℕ) → gather held [] ≡ held
unfolding gather
gather_none held = refl

-- once the byte at a place is gathered, those behind it are left
pub gather_on : (held now word : List ℕ) (i : ℕ) → i < length word → now ≡ gather held (get_or word i 0 ∷ [])
    → gather now (drop (i + 1) word) ≡ gather held (drop i word)
unfolding gather
gather_on held now word i lt same =
    rw add-one (
    ap (λ (bs : List ℕ). gather bs (drop (suc i) word)) same ∙ sym (ap (gather held) (drop-cons word i 0 lt))
    )

-- once a space and the number at a place are gathered, the numbers behind it are left
pub spelled_on : (held spaced now words : List ℕ) (i : ℕ) → i < length words → spaced ≡ gather held (32 ∷ [])
    → now ≡ gather spaced (decimal (get_or words i 0)) → gather now (spelled (drop (i + 1) words)) ≡ gather held (spelled (drop i words))
unfolding gather spelled
spelled_on held spaced now words i lt space number =
    rw add-one (
    ap (λ (bs : List ℕ). gather bs (spelled (drop (suc i) words))) (rw space at number)
    ∙ gather_twice (one_more held 32) (decimal (get_or words i 0)) (spelled (drop (suc i) words))
    ∙ sym (ap (λ ns. gather held (spelled ns)) (drop-cons words i 0 lt))
    )

-- a byte put behind those that are there, where there is room
pub gather_put : (row : List ℕ) (end b : ℕ) → length row ≡ 65536 → end < 65536
    → take (end + 1) (set row end b) ≡ gather (take end row) (b ∷ [])
unfolding gather
gather_put row end b long lt =
    let kept : take end row ≡ cond (ltb (length (take end row)) 65536) (take end row) [] = grind (arith, length-take-le) in
    take_more_set row end b (omega arith) ∙ ap (λ bs. bs ++ b ∷ []) kept

-- a full row has gone out before the byte is put
pub gather_first : (before row : List ℕ) (full end b : ℕ) → length before ≡ 65536 → full ≡ 65536 → length row ≡ 65536 → end ≡ 0
    → take (end + 1) (set row end b) ≡ gather (take full before) (b ∷ [])
unfolding gather
gather_first before row full end b long used also none =
    let out : take end row ≡ cond (ltb (length (take full before)) 65536) (take full before) [] = grind (arith, length-take-le) in
    take_more_set row end b (omega arith) ∙ ap (λ bs. bs ++ b ∷ []) out

-- a space and a digit put behind those that are there, where there is room for both
pub gather_digit : (row : List ℕ) (end n : ℕ) → length row ≡ 65536 → end + 2 ≤ 65536 → n < 10
    → take (end + 2) (set (set row end 32) (end + 1) (48 + n)) ≡ gather (gather (take end row) (32 ∷ [])) (decimal n)
gather_digit row end n long room small =
    let spaced : List ℕ = set row end 32 in
    ap (λ (m : ℕ). take m (set spaced (end + 1) (48 + n))) two
    ∙ gather_put spaced (end + 1) (48 + n) (length-set row end 32 ∙ long) (omega arith)
    ∙ ap (λ (l : List ℕ). gather l ((48 + n) ∷ [])) (gather_put row end 32 long (omega arith))
    ∙ ap (gather (gather (take end row) (32 ∷ []))) (sym (decimal_one n small))
  where
    two : end + 2 ≡ end + 1 + 1
    two = omega arith

-- none is left
pub gather_done : (now held word : List ℕ) (i : ℕ) → length word ≤ i → gather now (drop i word) ≡ held → now ≡ held
unfolding gather
gather_done now held word i le same = rw (drop_all i word le) at same

pub spelled_done : (now held words : List ℕ) (i : ℕ) → length words ≤ i → gather now (spelled (drop i words)) ≡ held → now ≡ held
unfolding gather spelled
spelled_done now held words i le same = rw (drop_all i words le) at same
