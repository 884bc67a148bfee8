-- `regrade` stores one word, the one behind the key: of the words cut before the pair just before the place of x the second. Where x does
-- not stand there, it stores none.
use mathlib.Core.Bool.{false}
use mathlib.Core.Path.{◌≡◌, sym, ap, ◌∙◌}
use Rattle.page.specs.Words.{view}
use Rattle.page.specs.Place.{has}
use Rattle.std.specs.Prelude.{Some}
use Rattle.page.proofs.ReadingLaws.{readable, none_before, other_before, look_none, key_before, look_there}
use Rattle.sheet.proofs.WritingLaws.{Bounds, bounds, regrade_none, regrade_exact}
use Rattle.sheet.proofs.writing.regrade.Goals.{Start, Joined-then-behind-eq0, then-behind-eq0-via-then-behind-eq0, then-behind-eq0-via-else-behind-eq0+then-key-x}
use Rattle.sheet.proofs.writing.regrade.Goals as goal

near : (c : Start) → Bounds c.args.k c.args.w.now
near c = bounds c.requires.exact

-- x does not stand
missing : (c : Joined-then-behind-eq0) → has c.args.x (view c.args.w.now).entries ≡ false
missing c =
    let es = (view c.args.w.now).entries in
    let place = c.place-behind in
    elim c.then-behind-eq0.branch [
      | then-behind-eq0-via-then-behind-eq0 w ↦ none_before c.args.x place.result es place.ensures.value c.requires.w_value w.if-behind-eq0.true
      | then-behind-eq0-via-else-behind-eq0+then-key-x w ↦ other_before c.args.x place.result es place.ensures.value c.requires.w_value (λ same. w.if-key-x.true (w.key.ensures ∙ same))
    ]

pub invariant_of-page : goal.invariant_of-page
invariant_of-page c = record { readable = readable c.args.k c.args.w.now c.requires.exact.whole c.requires.exact.in_room }

pub returns-then-behind-eq0 : goal.returns-then-behind-eq0
returns-then-behind-eq0 c = record {
  value = look_none c.args.x (view c.args.w.now).entries (missing c);
  w_after = regrade_none c.requires.exact c.args.x c.args.v (missing c);
}

pub returns : goal.returns
returns c =
    let x = c.args.x in
    let es = (view c.args.w.now).entries in
    let place = c.place-behind in
    let some = c.if-behind-eq0.false in
    let same = sym c.key.ensures ∙ c.if-key-x.false in record {
      value = ap Some c.value-old.ensures ∙ look_there x place.result es place.ensures.value c.requires.w_value some same;
      w_after = regrade_exact c.requires.exact x c.args.v place.ensures.value c.pairs_from-at.ensures c.requires.w_value
          (key_before x place.result es place.ensures.value c.requires.w_value some same);
    }
