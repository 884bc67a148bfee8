-- The last page of the path begins the path upward.
use Prim.Native.Nat.{ℕ, ◌-◌}
use mathlib.Core.Path.{◌≡◌, subst}
use native.Mathlib.Omega.{arith}
use borrow.Author.Rules.{rules}
use lib.ListN.{length}
use denote.Ref.{Bor}
use Rattle.std.specs.Prelude.{Some}
use Rattle.std.specs.Slice.{IsGetResult}
use Rattle.pool.specs.Wrapped.{InPool}
use Rattle.footing.proofs.KeepLaws.{last_known}
use Rattle.footing.proofs.looking.at_leaf.Goals as goal

pub is_some_and-requires : goal.is_some_and-requires
is_some_and-requires c =
    let path = c.args.path.now in
    let known : (x : Bor ℕ) → c.last.result ≡ Some x → InPool c.args.shape.k c.args.shape.n x.now c.args.words.now = λ x is.
    (let last = subst (IsGetResult path 0 (length path - 1)) is c.last.ensures.item in (last_known c.requires x.now (last.4 (omega arith) 0) last.3.0).in_pool) in
    search rules
