-- "A plain sorted list, worked through one operation after another": what it answers to an operation, and the list afterwards.
-- It knows no pages, and no ways: by whatever way an update goes down, it is asked for the same. Its laws are in `proofs/PlainLaws.antt`.
use Rattle.std.specs.Prelude.{cond, List}
use Rattle.page.specs.Words.{Entry}
use Rattle.page.specs.Place.{has, information, at_or_above, without, regraded}
use Rattle.slots.specs.declared.Op.{Op}
use Rattle.slots.specs.declared.Op.TheVariants.{Search, Insert, Delete, Next, Regrade}
use Rattle.slots.specs.declared.Answer.{Answer}
use Rattle.slots.specs.declared.Answer.TheVariants.{Found, NotFound, Inserted, AlreadyThere, Deleted, NoSuchKey, Regraded}
use Rattle.footing.specs.Granted.{next_answer}
use Rattle.tree.specs.Sorted.{inserted}

-- An answer, and the entries afterwards.
pub record Reply : Type 0 where
  pub answer : Answer
  pub entries : List Entry

abbrev pub reply : Answer → List Entry → Reply
reply a es = record { answer = a; entries = es }

unfoldable pub plain : Op → List Entry → Reply
plain (Search x) es = reply (cond (has x es) (Found (information x es)) NotFound) es
plain (Insert x v way) es = cond (has x es) (reply (AlreadyThere (information x es)) es) (reply Inserted (inserted x v es))
plain (Delete x way) es = cond (has x es) (reply (Deleted (information x es)) (without x es)) (reply NoSuchKey es)
plain (Next x) es = reply (next_answer (at_or_above x es)) es
plain (Regrade x v way) es = cond (has x es) (reply (Regraded (information x es)) (regraded x v es)) (reply NoSuchKey es)
