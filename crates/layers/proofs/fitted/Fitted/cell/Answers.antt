use Rattle.std.proofs.Common.{◌≡◌, ℕ, length, get_or, pos, sym, ap, ◌∙◌, arith, lit≤, SFits, to_z, of_z, rules}
use mir.Syntax.{w128}
use Rattle.std.proofs.lemmas.Int.{to_z-of_z}
use Rattle.layers.specs.Scenes.{cells_of}
use Rattle.layers.specs.Tables.{place_of}
use Rattle.layers.proofs.Grids.{on_grid, off_grid}
use Rattle.layers.proofs.fitted.Fitted.cell.Goals as goal
use Rattle.layers.proofs.fitted.Fitted.cell.Goals.{else-m-scene-via-then-m-scene+then-p-scene+else-k-lt-COLUMNS, else-m-scene-via-then-m-scene+else-p-scene, else-m-scene-via-else-m-scene}

pub returns-then-k-lt-COLUMNS : goal.returns-then-k-lt-COLUMNS
unfolding cells_of
returns-then-k-lt-COLUMNS c =
    let cells = c.args.self.now.scene.cells.now in
    let fits : SFits w128 (get_or cells c.place.result (pos 0)) = search rules in
    let is : to_z w128 (of_z w128 (get_or cells c.place.result (pos 0))) ≡ get_or cells c.place.result (pos 0) = to_z-of_z w128 _ fits in
    record {
      value = is ∙ ap (λ (n : ℕ). get_or cells n (pos 0)) c.place.ensures.value
          ∙ sym (on_grid _ _ (λ m p k. get_or cells (place_of m p k) (pos 0)) c.args.m c.args.p c.args.k (omega arith) (omega arith) (omega arith));
      size = rw is (c.args.self.now.fits.bounded c.place.result);
    }

pub returns-else-m-scene : goal.returns-else-m-scene
unfolding cells_of
returns-else-m-scene c =
    let off = off_grid c.args.self.now.scene.last (length c.args.self.now.scene.months.now) (λ m p k. get_or c.args.self.now.scene.cells.now (place_of m p k) (pos 0)) c.args.m c.args.p c.args.k in
    record {
      value = elim c.else-m-scene.branch [
        | else-m-scene-via-then-m-scene+then-p-scene+else-k-lt-COLUMNS w ↦ sym (off (λ h i j. omega arith))
        | else-m-scene-via-then-m-scene+else-p-scene w ↦ sym (off (λ h i j. omega arith))
        | else-m-scene-via-else-m-scene w ↦ sym (off (λ h i j. omega arith))
      ];
      size = lit≤ tt;
    }
