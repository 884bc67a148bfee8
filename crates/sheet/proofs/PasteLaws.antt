-- What the library's copying and filling leave of a list of words, as one run pasted in, and the same of words put in and taken out.
use Prim.Native.Nat.{ℕ, suc, ◌+◌, ◌-◌, ◌≤◌}
use mathlib.Core.List.{List, [], ◌∷◌, ◌++◌, append-nil, append_assoc}
use mathlib.Core.Path.{◌≡◌, sym, ap, ◌∙◌}
use native.Mathlib.Numerals.{add-one}
use native.Mathlib.Omega.{arith}
use lib.ListN.{length, set, take, drop, replicate, length-drop, drop_of_length-le, take-append-drop}
use lib.Seq.{paste, length-paste, take-paste, drop-paste, drop-drop, drop_at, sets-eq, length-take-le, take-append-le}

-- zeros from word e on
pub zeroed : (w : List ℕ) (e : ℕ) {z : List ℕ} → e ≤ length w → z ≡ replicate (length (take (length w - e) (drop e w))) 0
    → take e w ++ (z ++ drop (length w - e) (drop e w)) ≡ take e w ++ replicate (length w - e) 0
zeroed w e {z} room zeros =
    let left : length (drop e w) ≡ length w - e = length-drop e w in
    let all : length (take (length w - e) (drop e w)) ≡ length w - e = length-take-le (length w - e) (drop e w) (omega arith) in
    ap (λ (u : List ℕ). take e w ++ (z ++ u)) (drop_of_length-le (drop e w) (omega arith))
    ∙ ap (λ (u : List ℕ). take e w ++ u) (append-nil z ∙ zeros ∙ ap (λ (n : ℕ). replicate n 0) all)

-- x and v put in at word a, the words from there up to word e moved on by two
pub pushed : (w : List ℕ) (a e x v : ℕ) → a ≤ e → e + 2 ≤ length w
    → set (set (paste w (a + 2) (drop a w) (e - a)) a x) (a + 1) v ≡ paste w a (x ∷ v ∷ drop a w) (e + 2 - a)
pushed w a e x v up room =
    let n : ℕ = e - a in
    let P : List ℕ = paste w (a + 2) (drop a w) n in
    let top : List ℕ = take (a + 2) w in
    let run : List ℕ = take n (drop a w) in
    let rest : List ℕ = drop (a + 2 + n) w in
    let left : length (drop a w) ≡ length w - a = length-drop a w in
    let first : length top ≡ a + 2 = length-take-le (a + 2) w (omega arith) in
    let same : P ≡ top ++ (run ++ rest) = append_assoc top run rest in
    let long : length P ≡ length w = length-paste w (a + 2) (drop a w) n (omega arith) (omega arith) in
    let front : take a P ≡ take a w =
    ap (take a) same
    ∙ take-append-le a top (run ++ rest) (omega arith)
    ∙ sym (ap (take a) (sym (take-append-drop (a + 2) w)) ∙ take-append-le a top (drop (a + 2) w) (omega arith)) in
    let back : drop (a + 2) P ≡ run ++ rest = ap (drop (a + 2)) same ∙ drop_at top (run ++ rest) (a + 2) first in
    let count : e + 2 - a ≡ suc (suc n) = omega arith in
    let past : a + suc (suc n) ≡ a + 2 + n = omega arith in
    ap (λ (z : ℕ). set (set P a x) z v) (add-one a)
    ∙ sets-eq (x ∷ v ∷ []) P a (omega arith)
    ∙ ap (λ (u : List ℕ). u ++ (x ∷ v ∷ []) ++ drop (a + 2) P) front
    ∙ ap (λ (u : List ℕ). take a w ++ (x ∷ v ∷ []) ++ u) back
    ∙ append_assoc (take a w) (x ∷ v ∷ []) (run ++ rest)
    ∙ sym
    (ap (λ (z : ℕ). paste w a (x ∷ v ∷ drop a w) z) count
    ∙ ap (λ (z : ℕ). take a w ++ (x ∷ v ∷ run) ++ drop z w) past
    ∙ append_assoc (take a w) (x ∷ v ∷ run) rest)

-- two words taken out at word a, the words behind them up to word e moved down by two, and two zeros behind these
pub pulled : (w : List ℕ) (a e : ℕ) → a + 2 ≤ e → e ≤ length w
    → set (set (paste w a (drop (a + 2) w) (e - (a + 2))) (e - 2) 0) (e - 1) 0 ≡ take a w ++ take (e - 2 - a) (drop (a + 2) w) ++ 0 ∷ 0 ∷ drop e w
pulled w a e up room =
    let n : ℕ = e - (a + 2) in
    let s : List ℕ = drop (a + 2) w in
    let P : List ℕ = paste w a s n in
    let zeros : List ℕ = 0 ∷ 0 ∷ [] in
    let left : length s ≡ length w - (a + 2) = length-drop (a + 2) w in
    let long : length P ≡ length w = length-paste w a s n (omega arith) (omega arith) in
    let last : a + n ≡ e - 2 = omega arith in
    let next : e - 1 ≡ suc (e - 2) = omega arith in
    let end : e - 2 + 2 ≡ e = omega arith in
    let count : n ≡ e - 2 - a = omega arith in
    let before : take (e - 2) P ≡ take a w ++ take n s = ap (λ (z : ℕ). take z P) (sym last) ∙ take-paste w a s n (omega arith) (omega arith) in
    let from : drop (e - 2) P ≡ drop (e - 2) w =
    ap (λ (z : ℕ). drop z P) (sym last) ∙ drop-paste w a s n (omega arith) (omega arith) ∙ ap (λ (z : ℕ). drop z w) last in
    let behind : drop (e - 2 + 2) P ≡ drop e w =
    sym (drop-drop 2 (e - 2) P) ∙ ap (drop 2) from ∙ drop-drop 2 (e - 2) w ∙ ap (λ (z : ℕ). drop z w) end in
    ap (λ (z : ℕ). set (set P (e - 2) 0) z 0) next
    ∙ sets-eq zeros P (e - 2) (omega arith)
    ∙ ap (λ (u : List ℕ). u ++ zeros ++ drop (e - 2 + 2) P) before
    ∙ ap (λ (u : List ℕ). take a w ++ take n s ++ zeros ++ u) behind
    ∙ append_assoc (take a w ++ take n s) zeros (drop e w)
    ∙ ap (λ (z : ℕ). take a w ++ take z s ++ 0 ∷ 0 ∷ drop e w) count
