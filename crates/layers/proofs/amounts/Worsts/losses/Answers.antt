use Rattle.std.proofs.Common.{◌≡◌, ℕ, ◌^◌, ◌<◌, ◌≤◌, List, [], ◌∷◌, get_or, ℤ, pos, sym, ap, ◌∙◌, ap₂, subst, le_trans, zero-le, arith, rules}
use Rattle.margin.specs.Layers.{loss_of, family_loss}
use Rattle.layers.proofs.Losses.{two_items, two_sized}
use Rattle.layers.proofs.amounts.Worsts.losses.Goals as goal

pub invariant_of-result : goal.invariant_of-result
unfolding family_loss
invariant_of-result c =
    let worsts = c.args.self.now.worsts in
    let none : ℤ × ℕ = (pos 0, 0) in
    let items = c.map.ensures.items in
    let each : (f : ℕ) → f < 2 → (get_or c.map.result f 0 ≡ loss_of (get_or worsts f none).0) × (get_or c.map.result f 0 ≤ 2 ^ 78) = λ f h. (let called = (items.at f none 0 h).2 in (search (rules, called), le_trans (search (rules, called)) (c.args.self.now.sized f))) in
    let two = two_items c.map.result 0 items.long in
    record {
      held = two ∙ ap₂ (λ (x y : ℕ). x ∷ y ∷ []) ((each 0 (omega arith)).0) ((each 1 (omega arith)).0) ∙ ap (λ (l : List (ℤ × ℕ)). loss_of (get_or l 0 none).0 ∷ loss_of (get_or l 1 none).0 ∷ []) c.args.self.now.held;
      sized = subst (λ (l : List ℕ). (f : ℕ) → get_or l f 0 ≤ 2 ^ 78) (sym two) (two_sized (λ (n : ℕ). n) _ _ 0 (2 ^ 78) ((each 0 (omega arith)).1) ((each 1 (omega arith)).1) zero-le);
    }
