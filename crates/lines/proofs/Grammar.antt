-- The meaning of a line is what the grammar says: a good line means its command, and a line that means a command is good.
-- A number is taken off the front as far as its digits go; behind them stands a space or nothing, so that no other
-- reading is left.
use Prim.Native.Nat.{ℕ}
use mathlib.Core.Bool.{Bool, true, false, cond, ◌&&◌, false≢true}
use mathlib.Core.List.{List, [], ◌∷◌, ◌++◌, append-nil}
use mathlib.Core.Logic.{◌⊎◌, inl, inr}
use mathlib.Core.Path.{◌≡◌, refl, sym, ap, ap₂, ◌∙◌, subst}
use native.Mathlib.Omega.{arith}
use borrow.Author.Tests.{lt-ltb, le-leb, ltb-true, leb-true, eqb-true}
use lib.Dec.{leb, ltb, eqb}
use lib.ListN.{length, drop}
use lib.Seq.{drop-append_seam}
use Rattle.ground.specs.Tests.{all}
use Rattle.ground.proofs.Bools.{and_first, and_second, and_both}
use Rattle.ground.proofs.Choice.{cond_ind, cond-true}
use Rattle.slots.specs.declared.Op.TheVariants.{Search, Insert, Delete, Next, Regrade}
use Rattle.slots.specs.declared.Way.{Way}
use Rattle.slots.specs.declared.Way.TheVariants.{First, Second, Third}
use Rattle.slots.specs.Operations.{by_way}
use Rattle.lines.specs.declared.Command.{Command}
use Rattle.lines.specs.declared.Command.TheVariants.{Begin, Step, Bad}
use Rattle.lines.specs.Text.{bytes, starts_with}
use Rattle.lines.specs.Meaning.{is_digit, digits, value, largest, Front, no_number, number, counted, front, alone, numbered, after, stepping, searching, deleting, asking_next, informing, keying, inserting, asking_regrade, asking_third, asking_second, asking, beginning, meaning}
use Rattle.lines.specs.Forms.{Numeral, Good, to_search, to_insert, to_delete, to_next, to_regrade, to_step}

-- ---- a number at the front

-- the digits at the front are digits
digits_digital : (bs : List ℕ) → all is_digit (digits bs) ≡ true
unfolding all digits
digits_digital [] = refl
digits_digital (b ∷ bs) =
    let rest = digits_digital bs in
    cond_ind (λ (ds : List ℕ). all is_digit ds ≡ true) (is_digit b) (λ t. and_both t rest) (λ f. refl)

-- and behind them stand the other bytes
digits_split : (bs : List ℕ) → bs ≡ digits bs ++ drop (length (digits bs)) bs
unfolding digits
digits_split [] = refl
digits_split (b ∷ bs) =
    let rest = digits_split bs in
    cond_ind (λ (ds : List ℕ). b ∷ bs ≡ ds ++ drop (length ds) (b ∷ bs)) (is_digit b) (λ t. ap (λ (l : List ℕ). b ∷ l) rest) (λ f. refl)

-- digits, and no digit behind them, are the digits at the front
pub digits_of : (ds rest : List ℕ) → all is_digit ds ≡ true → digits rest ≡ [] → digits (ds ++ rest) ≡ ds
unfolding all digits
digits_of [] rest t e = e
digits_of (d ∷ ds) rest t e =
    cond-true (d ∷ digits (ds ++ rest)) [] (and_first (is_digit d) (all is_digit ds) t)
    ∙ ap (λ (l : List ℕ). d ∷ l) (digits_of ds rest (and_second (is_digit d) (all is_digit ds) t) e)

-- a numeral is the number at the front
pub front_numeral : {ds : List ℕ} {n : ℕ} (rest : List ℕ) → Numeral ds n → digits rest ≡ [] → front (ds ++ rest) ≡ number n rest
unfolding front
front_numeral {ds} {n} rest h e =
    ap (λ (l : List ℕ). counted l (ds ++ rest)) (digits_of ds rest h.digital e)
    ∙ cond-true _ _ (and_both (lt-ltb 0 (length ds) h.some) (le-leb (value ds) largest (omega (arith, h.worth, h.small))))
    ∙ ap₂ number h.worth (drop-append_seam ds rest)

-- and ends the line where nothing stands behind it
pub alone_numeral : {ds : List ℕ} {n : ℕ} → Numeral ds n → alone (front ds) ≡ number n []
unfolding digits
alone_numeral {ds} {n} h = ap (λ (l : List ℕ). alone (front l)) (sym (append-nil ds)) ∙ ap alone (front_numeral [] h refl)

-- ---- a good line means its command

-- a key, a space and information mean what the two mean
lot_means : {key information : ℕ} (means : ℕ → ℕ → Command) (ks is : List ℕ) → Numeral ks key → Numeral is information
    → keying means (ks ++ (bytes " " ++ is)) ≡ means key information
unfolding starts_with digits informing keying
lot_means {key} means ks is hk hi =
    ap (λ (f : Front). numbered f (λ key rest. after " " rest (informing (means key)) Bad)) (front_numeral (bytes " " ++ is) hk refl)
    ∙ ap (λ (f : Front). numbered f (λ information rest. means key information)) (alone_numeral hi)

-- behind the slot, the letter of an update says what is asked, and by which way
insert_asked : (way : Way) {slot : ℕ} (ss bs : List ℕ) → Numeral ss slot
    → beginning (ss ++ (bytes (by_way way " i " " i2 " " i3 ") ++ bs)) ≡ inserting way slot bs
unfolding starts_with digits asking_third asking_second asking beginning
insert_asked First ss bs hs = ap (λ (f : Front). numbered f asking) (front_numeral (bytes " i " ++ bs) hs refl)
insert_asked Second ss bs hs = ap (λ (f : Front). numbered f asking) (front_numeral (bytes " i2 " ++ bs) hs refl)
insert_asked Third ss bs hs = ap (λ (f : Front). numbered f asking) (front_numeral (bytes " i3 " ++ bs) hs refl)

delete_asked : (way : Way) {slot : ℕ} (ss bs : List ℕ) → Numeral ss slot
    → beginning (ss ++ (bytes (by_way way " d " " d2 " " d3 ") ++ bs)) ≡ deleting way slot bs
unfolding starts_with digits asking_third asking_second asking beginning
delete_asked First ss bs hs = ap (λ (f : Front). numbered f asking) (front_numeral (bytes " d " ++ bs) hs refl)
delete_asked Second ss bs hs = ap (λ (f : Front). numbered f asking) (front_numeral (bytes " d2 " ++ bs) hs refl)
delete_asked Third ss bs hs = ap (λ (f : Front). numbered f asking) (front_numeral (bytes " d3 " ++ bs) hs refl)

regrade_asked : (way : Way) {slot : ℕ} (ss bs : List ℕ) → Numeral ss slot
    → beginning (ss ++ (bytes (by_way way " g " " g2 " " g3 ") ++ bs)) ≡ asking_regrade way slot bs
unfolding starts_with digits asking_third asking_second asking beginning
regrade_asked First ss bs hs = ap (λ (f : Front). numbered f asking) (front_numeral (bytes " g " ++ bs) hs refl)
regrade_asked Second ss bs hs = ap (λ (f : Front). numbered f asking) (front_numeral (bytes " g2 " ++ bs) hs refl)
regrade_asked Third ss bs hs = ap (λ (f : Front). numbered f asking) (front_numeral (bytes " g3 " ++ bs) hs refl)

pub good_means : (line : List ℕ) {c : Command} → Good line c → meaning line ≡ c
unfolding starts_with digits stepping searching deleting asking_next informing keying inserting asking_regrade asking beginning meaning
good_means line (to_search {slot = slot} ss ks hs hk e) =
    ap meaning e
    ∙ ap (λ (f : Front). numbered f asking) (front_numeral (bytes " s " ++ ks) hs refl)
    ∙ ap (λ (f : Front). numbered f (λ key rest. Begin slot (Search key))) (alone_numeral hk)
good_means line (to_insert way {slot = slot} ss ks is hs hk hi e) =
    ap meaning e
    ∙ insert_asked way ss (ks ++ (bytes " " ++ is)) hs
    ∙ lot_means (λ key information. Begin slot (Insert key information way)) ks is hk hi
good_means line (to_delete way {slot = slot} ss ks hs hk e) =
    ap meaning e
    ∙ delete_asked way ss ks hs
    ∙ ap (λ (f : Front). numbered f (λ key rest. Begin slot (Delete key way))) (alone_numeral hk)
good_means line (to_next {slot = slot} ss ks hs hk e) =
    ap meaning e
    ∙ ap (λ (f : Front). numbered f asking) (front_numeral (bytes " n " ++ ks) hs refl)
    ∙ ap (λ (f : Front). numbered f (λ key rest. Begin slot (Next key))) (alone_numeral hk)
good_means line (to_regrade way {slot = slot} ss ks is hs hk hi e) =
    ap meaning e
    ∙ regrade_asked way ss (ks ++ (bytes " " ++ is)) hs
    ∙ lot_means (λ key information. Begin slot (Regrade key information way)) ks is hk hi
good_means line (to_step ss hs e) = ap meaning e ∙ ap (λ (f : Front). numbered f (λ slot rest. Step slot)) (alone_numeral hs)

-- ---- a line that means a command is good

-- a word at the front, and what stands behind it
begins_split : (word bs : List ℕ) → starts_with word bs ≡ true → bs ≡ word ++ drop (length word) bs
unfolding starts_with
begins_split [] bs t = refl
begins_split (w ∷ ws) [] t = absurd (false≢true t)
begins_split (w ∷ ws) (b ∷ bs) t =
    ap₂ (λ (x : ℕ) (l : List ℕ). x ∷ l) (eqb-true b w (and_first (eqb b w) (starts_with ws bs) t))
    (begins_split ws bs (and_second (eqb b w) (starts_with ws bs) t))

-- a number at the front is a numeral, and what stands behind it
front_split : (bs : List ℕ) {n : ℕ} {rest : List ℕ} → front bs ≡ number n rest → Numeral (digits bs) n × (bs ≡ digits bs ++ rest)
unfolding front
front_split bs {n} {rest} e = go (ltb 0 (length ds) && leb (value ds) largest) refl e
  where
    ds : List ℕ
    ds = digits bs

    go : (b : Bool) → ltb 0 (length ds) && leb (value ds) largest ≡ b
        → cond b (number (value ds) (drop (length ds) bs)) no_number ≡ number n rest
        → Numeral ds n × (bs ≡ ds ++ rest)
    go true t f =
        let same : value ds ≡ n = cc in
        let behind : drop (length ds) bs ≡ rest = cc in (
          record {
            digital = digits_digital bs;
            some = ltb-true 0 (length ds) (and_first (ltb 0 (length ds)) (leb (value ds) largest) t);
            worth = same;
            small = omega (arith, leb-true (value ds) largest (and_second (ltb 0 (length ds)) (leb (value ds) largest) t));
          },
          digits_split bs ∙ ap (λ (l : List ℕ). ds ++ l) behind,
        )
    go false t f = let z : ◌≡◌ {A = ℕ} 0 1 = cc in absurd (omega arith)

-- a number that nothing stands behind is a numeral
alone_split : (f : Front) {n : ℕ} {rest : List ℕ} → alone f ≡ number n rest → f ≡ number n []
alone_split no_number e = let z : ◌≡◌ {A = ℕ} 0 1 = cc in absurd (omega arith)
alone_split (number m []) {n} e = let same : m ≡ n = cc in ap (λ (k : ℕ). number k []) same
alone_split (number m (b ∷ bs)) e = let z : ◌≡◌ {A = ℕ} 0 1 = cc in absurd (omega arith)

last_numeral : (bs : List ℕ) {n : ℕ} {rest : List ℕ} → alone (front bs) ≡ number n rest → Numeral bs n
last_numeral bs {n} e =
    let found = front_split bs (alone_split (front bs) e) in
    subst (λ (l : List ℕ). Numeral l n) (sym (found.1 ∙ append-nil (digits bs))) found.0

-- what holds where there is no number, and of each number that is there, holds
numbered_ind : (P : Command → Type 0) (f : Front) (means : ℕ → List ℕ → Command) → P Bad
    → ((n : ℕ) (rest : List ℕ) → f ≡ number n rest → P (means n rest)) → P (numbered f means)
numbered_ind P no_number means bad good = bad
numbered_ind P (number n rest) means bad good = good n rest refl

-- a line means nothing, or it is good
abbrev pub Meant : List ℕ → Command → Type 0
Meant line c = (c ≡ Bad) ⊎ Good line c

module _ (line : List ℕ) where
  stepping_meant : (ss : List ℕ) → line ≡ bytes "t " ++ ss → Meant line (stepping ss)
  unfolding stepping
  stepping_meant ss e =
      numbered_ind (Meant line) (alone (front ss)) (λ slot rest. Step slot) (inl refl)
      (λ slot rest f. inr (to_step ss (last_numeral ss f) e))

  -- a key, a space and information mean nothing, or what is good for them
  lot_meant : (means : ℕ → ℕ → Command) (bs : List ℕ)
      → ((key information : ℕ) (ks is : List ℕ) → Numeral ks key → Numeral is information → bs ≡ ks ++ (bytes " " ++ is) → Good line (means key information))
      → Meant line (keying means bs)
  unfolding informing keying
  lot_meant means bs good =
      numbered_ind (Meant line) (front bs) (λ key rest. after " " rest (informing (means key)) Bad) (inl refl)
      (λ key rest f. let found = front_split bs f in
      cond_ind (Meant line) (starts_with (bytes " ") rest)
      (λ t. numbered_ind (Meant line) (alone (front (drop 1 rest))) (λ information end. means key information) (inl refl)
      (λ information end g. inr (good key information (digits bs) (drop 1 rest) found.0 (last_numeral (drop 1 rest) g)
      (found.1 ∙ ap (λ (l : List ℕ). digits bs ++ l) (begins_split (bytes " ") rest t)))))
      (λ n. inl refl))

  module _ {slot : ℕ} (ss : List ℕ) (hs : Numeral ss slot) where
    searching_meant : (ks : List ℕ) → line ≡ bytes "b " ++ (ss ++ (bytes " s " ++ ks)) → Meant line (searching slot ks)
    unfolding searching
    searching_meant ks e =
        numbered_ind (Meant line) (alone (front ks)) (λ key rest. Begin slot (Search key)) (inl refl)
        (λ key rest f. inr (to_search ss ks hs (last_numeral ks f) e))

    deleting_meant : (way : Way) (ks : List ℕ) → line ≡ bytes "b " ++ (ss ++ (bytes (by_way way " d " " d2 " " d3 ") ++ ks)) → Meant line (deleting way slot ks)
    unfolding deleting
    deleting_meant way ks e =
        numbered_ind (Meant line) (alone (front ks)) (λ key rest. Begin slot (Delete key way)) (inl refl)
        (λ key rest f. inr (to_delete way ss ks hs (last_numeral ks f) e))

    next_meant : (ks : List ℕ) → line ≡ bytes "b " ++ (ss ++ (bytes " n " ++ ks)) → Meant line (asking_next slot ks)
    unfolding asking_next
    next_meant ks e =
        numbered_ind (Meant line) (alone (front ks)) (λ key rest. Begin slot (Next key)) (inl refl)
        (λ key rest f. inr (to_next ss ks hs (last_numeral ks f) e))

    inserting_meant : (way : Way) (bs : List ℕ) → line ≡ bytes "b " ++ (ss ++ (bytes (by_way way " i " " i2 " " i3 ") ++ bs)) → Meant line (inserting way slot bs)
    unfolding inserting
    inserting_meant way bs e =
        lot_meant (λ key information. Begin slot (Insert key information way)) bs
        (λ key information ks is hk hi f. to_insert way ss ks is hs hk hi (e ∙ ap (λ (l : List ℕ). bytes "b " ++ (ss ++ (bytes (by_way way " i " " i2 " " i3 ") ++ l))) f))

    regrading_meant : (way : Way) (bs : List ℕ) → line ≡ bytes "b " ++ (ss ++ (bytes (by_way way " g " " g2 " " g3 ") ++ bs)) → Meant line (asking_regrade way slot bs)
    unfolding asking_regrade
    regrading_meant way bs e =
        lot_meant (λ key information. Begin slot (Regrade key information way)) bs
        (λ key information ks is hk hi f. to_regrade way ss ks is hs hk hi (e ∙ ap (λ (l : List ℕ). bytes "b " ++ (ss ++ (bytes (by_way way " g " " g2 " " g3 ") ++ l))) f))

    module _ (bs : List ℕ) (e : line ≡ bytes "b " ++ (ss ++ bs)) where
      -- a word that stands behind the slot
      behind_slot : (word : List ℕ) → starts_with word bs ≡ true → line ≡ bytes "b " ++ (ss ++ (word ++ drop (length word) bs))
      behind_slot word t = e ∙ ap (λ (l : List ℕ). bytes "b " ++ (ss ++ l)) (begins_split word bs t)

      third_meant : Meant line (asking_third slot bs)
      unfolding asking_third
      third_meant =
          cond_ind (Meant line) (starts_with (bytes " i3 ") bs) (λ t. inserting_meant Third (drop 4 bs) (behind_slot (bytes " i3 ") t))
          (λ n. cond_ind (Meant line) (starts_with (bytes " d3 ") bs) (λ t. deleting_meant Third (drop 4 bs) (behind_slot (bytes " d3 ") t))
          (λ m. cond_ind (Meant line) (starts_with (bytes " g3 ") bs) (λ t. regrading_meant Third (drop 4 bs) (behind_slot (bytes " g3 ") t)) (λ k. inl refl)))

      second_meant : Meant line (asking_second slot bs)
      unfolding asking_second
      second_meant =
          cond_ind (Meant line) (starts_with (bytes " i2 ") bs) (λ t. inserting_meant Second (drop 4 bs) (behind_slot (bytes " i2 ") t))
          (λ n. cond_ind (Meant line) (starts_with (bytes " d2 ") bs) (λ t. deleting_meant Second (drop 4 bs) (behind_slot (bytes " d2 ") t))
          (λ m. cond_ind (Meant line) (starts_with (bytes " g2 ") bs) (λ t. regrading_meant Second (drop 4 bs) (behind_slot (bytes " g2 ") t)) (λ k. third_meant)))

      asking_meant : Meant line (asking slot bs)
      unfolding asking
      asking_meant =
          cond_ind (Meant line) (starts_with (bytes " s ") bs) (λ t. searching_meant (drop 3 bs) (behind_slot (bytes " s ") t))
          (λ n. cond_ind (Meant line) (starts_with (bytes " i ") bs) (λ t. inserting_meant First (drop 3 bs) (behind_slot (bytes " i ") t))
          (λ m. cond_ind (Meant line) (starts_with (bytes " d ") bs) (λ t. deleting_meant First (drop 3 bs) (behind_slot (bytes " d ") t))
          (λ k. cond_ind (Meant line) (starts_with (bytes " n ") bs) (λ t. next_meant (drop 3 bs) (behind_slot (bytes " n ") t))
          (λ l. cond_ind (Meant line) (starts_with (bytes " g ") bs) (λ t. regrading_meant First (drop 3 bs) (behind_slot (bytes " g ") t))
          (λ j. second_meant)))))

  beginning_meant : (bs : List ℕ) → line ≡ bytes "b " ++ bs → Meant line (beginning bs)
  unfolding beginning
  beginning_meant bs e =
      numbered_ind (Meant line) (front bs) asking (inl refl)
      (λ slot rest f. let found = front_split bs f in
      asking_meant (digits bs) found.0 rest (e ∙ ap (λ (l : List ℕ). bytes "b " ++ l) found.1))

  -- every line means nothing, or it is good
  pub means_good : Meant line (meaning line)
  unfolding meaning
  means_good =
      cond_ind (Meant line) (starts_with (bytes "b ") line) (λ t. beginning_meant (drop 2 line) (begins_split (bytes "b ") line t))
      (λ n. cond_ind (Meant line) (starts_with (bytes "t ") line) (λ t. stepping_meant (drop 2 line) (begins_split (bytes "t ") line t)) (λ m. inl refl))
