use Rattle.std.proofs.Common.{◌≡◌, sym, ap, ◌∙◌}
use Rattle.layer_tiles.specs.Patches.{numbers_of}
use Rattle.layer_tiles.specs.Changes.{ChangeState}
use Rattle.layer_tiles.specs.ChangeBodies.{change_of}
use Rattle.layer_tiles.specs.declared.changes.Body.{Body}
use Rattle.layer_tiles.proofs.changes.Change.next_touched.Goals as goal

pub returns-in-Patched : goal.returns-in-Patched
returns-in-Patched c =
    let e : c.args.self.now.touched ≡ numbers_of c.in-Patched.patch.now.tiles =
    ap (λ (s : ChangeState). s.touched) (sym c.self.view_is) ∙ ap (λ (b : Body). (change_of b).touched) c.in-Patched.is in
    rw (e) c.next_from.ensures

pub returns-in-Fresh : goal.returns-in-Fresh
returns-in-Fresh c =
    let e : c.args.self.now.touched ≡ numbers_of c.in-Fresh.patch.now.tiles =
    ap (λ (s : ChangeState). s.touched) (sym c.self.view_is) ∙ ap (λ (b : Body). (change_of b).touched) c.in-Fresh.is in
    rw (e) c.next_from-in-Fresh.ensures
