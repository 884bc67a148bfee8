-- The blank tag, 02 (viii): an operation that Begin takes is none of a blank tag, by whatever way it goes on, and so it leaves no lot of one.
use Prim.Native.Nat.{ℕ}
use mathlib.Core.Bool.{false}
use mathlib.Core.List.{List}
use mathlib.Core.Logic.{◌≢◌, ⊎_elim}
use mathlib.Core.Path.{◌≡◌, refl, sym, ap, ◌∙◌}
use borrow.Author.Tests.{eqb-false}
use lib.Dec.{eqb}
use Rattle.ground.specs.Limits.{blank_key}
use Rattle.ground.proofs.Choice.{cond_ind}
use Rattle.page.specs.Words.{Entry}
use Rattle.page.specs.Place.{has}
use Rattle.page.proofs.RegradeLaws.{has_regraded}
use Rattle.pool.specs.Pool.{Write}
use Rattle.slots.specs.declared.Op.{Op}
use Rattle.slots.specs.declared.Op.TheVariants.{Search, Insert, Delete, Next, Regrade}
use Rattle.slots.specs.declared.Way.TheVariants.{First, Second, Third}
use Rattle.slots.specs.declared.Answer.{Answer}
use Rattle.slots.specs.Operations.{blank_tag}
use Rattle.slots.specs.Parts.{first_way, Stand}
use Rattle.tree.specs.Tree.{Tr, entries_of}
use Rattle.runs.specs.Plain.{Reply, plain}
use Rattle.runs.specs.Step.{Ended}
use Rattle.runs.proofs.PlainLaws.{has_inserted_other, has_without_other}

-- ---- the operation

-- by the first way it is of a blank tag just if it is by its own
first_tag : (op : Op) → blank_tag (first_way op) ≡ blank_tag op
unfolding blank_tag
first_tag (Search x) = refl
first_tag (Insert x v First) = refl
first_tag (Insert x v Second) = refl
first_tag (Insert x v Third) = refl
first_tag (Delete x First) = refl
first_tag (Delete x Second) = refl
first_tag (Delete x Third) = refl
first_tag (Next x) = refl
first_tag (Regrade x v First) = refl
first_tag (Regrade x v Second) = refl
first_tag (Regrade x v Third) = refl

-- operations that are one by the first way are both of a blank tag, or neither is
pub same_tag : (op op' : Op) → first_way op ≡ first_way op' → blank_tag op ≡ blank_tag op'
same_tag op op' e = sym (first_tag op) ∙ ap blank_tag e ∙ first_tag op'

-- ---- the lots

-- a key that is not that of a blank tag
apart : (x : ℕ) → eqb x blank_key ≡ false → blank_key ≢ x
apart x f e = eqb-false x blank_key f (sym e)

-- the plain list gets no lot of a blank tag: only an insertion adds a key
pub plain_unblank : (op : Op) (es : List Entry) → blank_tag op ≡ false → has blank_key es ≡ false → has blank_key (plain op es).entries ≡ false
unfolding plain blank_tag
plain_unblank (Search x) es tag none = none
plain_unblank (Insert x v way) es tag none =
    cond_ind (λ (r : Reply). has blank_key r.entries ≡ false) (has x es) (λ _. none)
    (λ _. has_inserted_other x v es blank_key (apart x (first_tag (Insert x v way) ∙ tag)) ∙ none)
plain_unblank (Delete x way) es tag none =
    cond_ind (λ (r : Reply). has blank_key r.entries ≡ false) (has x es)
    (λ _. has_without_other x blank_key es (apart x (first_tag (Delete x way) ∙ tag)) ∙ none) (λ _. none)
plain_unblank (Next x) es tag none = none
plain_unblank (Regrade x v way) es tag none =
    cond_ind (λ (r : Reply). has blank_key r.entries ≡ false) (has x es) (λ _. has_regraded x v blank_key es ∙ none) (λ _. none)

-- nor does the tree of an operation that has ended
pub ended_unblank : (k n : ℕ) (ws : List ℕ) (l : ℕ) (t : Tr l) (z : Stand) (a : Answer) (writes : List Write) → blank_tag z.op ≡ false
    → has blank_key (entries_of l t) ≡ false → (e : Ended k n ws l t z a writes) → has blank_key (entries_of e.leads.height e.leads.tree) ≡ false
ended_unblank k n ws l t z a writes tag none e =
    ap (has blank_key) e.leads.entries
    ∙ ⊎_elim
    (λ p. ap (has blank_key) p.entries ∙ plain_unblank z.op (entries_of l t) tag none)
    (λ r. ap (has blank_key) r.1 ∙ none)
    e.how
