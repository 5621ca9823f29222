use Rattle.std.proofs.Common.{rules, sym, ◌∙◌}
use Rattle.forms.proofs.Fronts.{head_other, head_ends}
use Rattle.forms.proofs.steps.same_head.Goals as goal

pub returns-then-starts_with : goal.returns-then-starts_with
returns-then-starts_with c = head_ends c.args.head.now c.args.text.now _ (sym c.starts_with.ensures.value ∙ c.if-starts_with.true) (λ k. search rules) (λ k. search rules)

pub returns-else-starts_with : goal.returns-else-starts_with
returns-else-starts_with c = c.if-starts_with.false ∙ sym (head_other c.args.head.now c.args.text.now (sym c.starts_with.ensures.value ∙ c.if-starts_with.false))
