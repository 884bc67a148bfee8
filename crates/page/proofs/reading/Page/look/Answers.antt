-- On rising keys a key that stands does so just before its place: there is no entry there, or another key, or x.
use mathlib.Core.Bool.{false}
use mathlib.Core.Path.{◌≡◌, sym, ap, ◌∙◌}
use Rattle.std.specs.Prelude.{Some}
use Rattle.page.specs.Words.{view}
use Rattle.page.specs.Place.{has}
use Rattle.page.proofs.ReadingLaws.{none_before, other_before, look_none, look_there}
use Rattle.page.proofs.reading.Page.look.Goals.{Joined-then-i-eq0, then-i-eq0-via-then-i-eq0, then-i-eq0-via-else-i-eq0+then-key-x}
use Rattle.page.proofs.reading.Page.look.Goals as goal

-- x does not stand: there is no entry there, or another key
missing : (c : Joined-then-i-eq0) → has c.args.x (view c.args.self.words.now).entries ≡ false
missing c =
    let es = (view c.args.self.words.now).entries in
    let place = c.place-i in
    elim c.then-i-eq0.branch [
      | then-i-eq0-via-then-i-eq0 w ↦ none_before c.args.x place.result es place.ensures.value c.requires w.if-i-eq0.true
      | then-i-eq0-via-else-i-eq0+then-key-x w ↦ other_before c.args.x place.result es place.ensures.value c.requires (λ same. w.if-key-x.true (w.key.ensures ∙ same))
    ]

pub returns-then-i-eq0 : goal.returns-then-i-eq0
returns-then-i-eq0 c = look_none c.args.x (view c.args.self.words.now).entries (missing c)

pub returns : goal.returns
returns c =
    let place = c.place-i in
    ap Some c.value.ensures
    ∙ look_there c.args.x place.result (view c.args.self.words.now).entries place.ensures.value c.requires
    c.if-i-eq0.false
    (sym c.key.ensures ∙ c.if-key-x.false)
