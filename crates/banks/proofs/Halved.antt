-- A half that a grid has.
use Rattle.std.proofs.Common.{◌≡◌, Some, None, Ok, Option, Result, refl}
use Rattle.terms.specs.declared.half.Half.{Half}
use Rattle.terms.specs.declared.refusal.Refusal.{Refusal}
use Rattle.terms.proofs.Passed.{err_is_ok}
use Rattle.banks.specs.Outcomes.{on_half}

pub passed_half : {X : Type 0} (half : Option Half) (checks : Half → Result X Refusal) (x : X) → on_half half checks ≡ Ok x → (grid : Half) × (half ≡ Some grid) × (checks grid ≡ Ok x)
passed_half None checks x e = absurd (err_is_ok _ x e)
passed_half (Some grid) checks x e = (grid, refl, e)
