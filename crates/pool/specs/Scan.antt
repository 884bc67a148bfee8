-- What a scan for free pages finds.
use Rattle.std.specs.Prelude.{ℕ, ◌≡◌, List, leb, length, take, Option, IfSome, is_some}
use Rattle.ground.specs.Limits.{most_new}
use Rattle.ground.specs.Tests.{padded}

-- Of `need` pages out of the list of all free ones: there are enough, and then they are the first ones of the list.
pub record Scanned (need : ℕ) (free : List ℕ) (r : Option (List ℕ)) : Type 0 where
  pub enough : is_some r ≡ leb need (length free)
  pub pages : IfSome r (λ pages. pages ≡ padded most_new (take need free))
  pub cells : IfSome r (λ pages. length pages ≡ most_new)
