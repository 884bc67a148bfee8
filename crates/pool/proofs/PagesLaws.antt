-- A part of the lent words that is a page: read it is the page's words, written it is the page written.
use Prim.Native.Nat.{ℕ, ◌+◌, ◌-◌}
use mathlib.Core.List.{List, ◌++◌, append_assoc}
use mathlib.Core.Path.{◌≡◌, sym, ap, ap₂, ◌∙◌}
use native.Mathlib.Omega.{arith}
use lib.ListN.{length, get_or, take, drop, take-append-drop}
use lib.Seq.{sets, sets-eq, drop-drop}
use Rattle.page.specs.Words.{Page, size, μ, encode}
use Rattle.page.specs.Reading.{Readable}
use Rattle.page.specs.Exact.{Exact}
use Rattle.page.proofs.ReadingLaws.{readable_μ, view_level}
use Rattle.page.proofs.WordLaws.{encode_free}
use Rattle.pool.specs.Pool.{start, words_of, page_at, Write, write, written}
use Rattle.pool.specs.Wrapped.{InPool, Lies}
use Rattle.std.specs.declared.ops.Range.{Range}
use Rattle.pool.proofs.StretchLaws.{length_words_of, ends_in_pool}
use Rattle.pool.proofs.WriteLaws.{length_written}

-- the part where page p lies is the page's words
pub lies_words : {k n p : ℕ} {s : Range ℕ} (ws : List ℕ) → Lies k n p s → take (s.end - s.start) (drop s.start ws) ≡ words_of k p ws
unfolding words_of
lies_words {k} {n} {p} {s} ws lies =
    let long : s.end - s.start ≡ size k = omega arith in
    ap₂ (λ (m i : ℕ). take m (drop i ws)) long lies.from

-- a page stays one of the pool while the number of words is kept,
pub in_pool_kept : {k n p : ℕ} {ws after : List ℕ} → InPool k n p ws → length after ≡ length ws → InPool k n p after
in_pool_kept h e = record { width = h.width; most = h.most; whole = e ∙ h.whole; inside = h.inside }

-- as it is where a page is written
pub in_pool_written : {k n p : ℕ} {ws after : List ℕ} (w : Write) → after ≡ written k w ws → InPool k n p ws → InPool k n p after
in_pool_written {k} {ws = ws} w e h = in_pool_kept h (ap length e ∙ length_written k w ws)

-- the page has a page's number of words
pub in_pool_size : {k n p : ℕ} {ws : List ℕ} → InPool k n p ws → length (words_of k p ws) ≡ size k
in_pool_size {k} {n} {p} {ws} h = length_words_of k n p ws h.inside h.whole

-- word 1 of a page that can be read is the number of its pairs
pub in_pool_μ : {k n p : ℕ} {ws : List ℕ} → InPool k n p ws → Readable (words_of k p ws)
    → μ (page_at k ws p) ≡ get_or (words_of k p ws) 1 0
unfolding page_at
in_pool_μ {k} {n} {p} {ws} h r = readable_μ (words_of k p ws) r

-- Page p's part, with the words of a new value, put back: page p is written with that value.
pub part_written : {k n p : ℕ} {s : Range ℕ} (P : Page) (ws part : List ℕ) → InPool k n p ws → Lies k n p s
    → part ≡ encode k P
    → length part ≡ length (take (s.end - s.start) (drop s.start ws))
    → take s.start ws ++ (part ++ drop (s.end - s.start) (drop s.start ws)) ≡ written k (write p P) ws
unfolding written
part_written {k} {n} {p} {s} P ws part h lies same kept =
    let long : length (encode k P) ≡ size k = sym (ap length same) ∙ kept ∙ ap length (lies_words ws lies) ∙ in_pool_size h in
    let end : s.start + (s.end - s.start) ≡ start k p + length (encode k P) = omega arith in
    ap (λ (l : List ℕ). take s.start ws ++ (part ++ l)) (drop-drop (s.end - s.start) s.start ws)
    ∙ sym (append_assoc (take s.start ws) part (drop (s.start + (s.end - s.start)) ws))
    ∙ ap₂ (λ (l r : List ℕ). l ++ r)
    (ap₂ (λ (i : ℕ) (l : List ℕ). take i ws ++ l) lies.from same)
    (ap (λ (i : ℕ). drop i ws) end)
    ∙ sym (sets-eq (encode k P) ws (start k p) (omega arith))

-- A page written as it is leaves all words as they are.
pub written_same : {k n p : ℕ} {ws : List ℕ} → InPool k n p ws → Exact k (words_of k p ws) → written k (write p (page_at k ws p)) ws ≡ ws
unfolding written page_at words_of
written_same {k} {n} {p} {ws} h exact =
    let i : ℕ = start k p in
    let part : List ℕ = take (size k) (drop i ws) in
    ap (sets ws i) (sym exact.words)
    ∙ sets-eq part ws i (omega (arith, ends_in_pool k n p h.inside, h.whole, exact.whole))
    ∙ append_assoc (take i ws) part (drop (i + length part) ws)
    ∙ ap (λ (l : List ℕ). take i ws ++ (part ++ l)) (ap (λ (m : ℕ). drop (i + m) ws) exact.whole ∙ sym (drop-drop (size k) i ws))
    ∙ ap (λ (l : List ℕ). take i ws ++ l) (take-append-drop (size k) (drop i ws))
    ∙ take-append-drop i ws

-- what the functions on a page's words are told of them
pub ruleset page_known = (in_pool_μ, in_pool_size, lies_words, part_written, view_level, encode_free)
