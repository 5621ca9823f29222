use Rattle.std.proofs.Common.{◌≡◌, ◌+◌, ◌-◌, ◌<◌, ◌≤◌, ◌++◌, length, take, drop, sym, ap, ◌∙◌, arith}
use Rattle.std.proofs.lemmas.Result.{err_from_is_err_and}
use Rattle.std.proofs.lemmas.List.{length-take-le, take-append-drop, take_more_set, drop-set-lt, set-get_or, drop-drop}
use Rattle.forms.specs.Reads.{begins, form_in, list_on}
use Rattle.forms.proofs.Turns.{list_end, list_full, list_break, list_more, listed_err, listed_ok}
use Rattle.forms.proofs.Written.{reads_lists}
use Rattle.forms.proofs.reader.Reader.list.Goals as goal

pub returns-then-not-begins_with : goal.returns-then-not-begins_with
returns-then-not-begins_with g c =
    let at = c.loop-count.self.at in
    let out = c.loop-count.out in
    let count = c.loop-count.count in
    let stops = c.if-not-begins_with.ensures ∙ ap (λ h. begins h c.loop-count.self.text.now at) c.first_head-head.ensures ∙ ap (λ t. begins g.K.Kind.head_of t at) c.loop-count.invariant.0 in
    let long = length-take-le count out (omega arith) in
    record {
      answer = listed_ok _ (take count out) _ _ _ _ (list_end _ _ _ _ _ _ _ _ stops ∙ c.loop-count.invariant.2) (sym long) (set-get_or out count _ ∙ sym (take-append-drop count out) ∙ ap (λ l. take count out ++ l) (c.loop-count.invariant.1 ∙ ap (λ n. drop n c.args.out.now) (sym long)));
      same = c.loop-count.invariant.0;
      reads = reads_lists _ _ _ _ g.K.Kind.lettered;
    }

pub returns-in_err-record : goal.returns-in_err-record
returns-in_err-record g c =
    let p = err_from_is_err_and c.from_residual.result c.from_residual.ensures.1 in
    let tells = c.in_err-record.ensures in
    let at = c.loop-count.self.at in
    let starts = c.if-not-begins_with.ensures ∙ ap (λ h. begins h c.loop-count.self.text.now at) c.first_head-head.ensures ∙ ap (λ t. begins g.K.Kind.head_of t at) c.loop-count.invariant.0 in
    let here = tells.answer ∙ ap (λ t. form_in g.K.Kind.head_of g.K.Kind.fields_of g.K.Kind.empty g.K.Kind.filled t at) c.loop-count.invariant.0 in
    let room : c.loop-count.count < length c.args.out.now = omega arith in
    rw (p.1, p.2) (record { answer = listed_err _ _ _ _ _ (list_break _ _ _ _ _ _ _ _ _ _ room starts here ∙ c.loop-count.invariant.2); same = tells.same ∙ c.loop-count.invariant.0; reads = reads_lists _ _ _ _ g.K.Kind.lettered })

pub loop-count-preserved : goal.loop-count-preserved
loop-count-preserved g c =
    let tells = c.in_ok-record.ensures in
    let at = c.loop-count.self.at in
    let out = c.loop-count.out in
    let count = c.loop-count.count in
    let starts = c.if-not-begins_with.ensures ∙ ap (λ h. begins h c.loop-count.self.text.now at) c.first_head-head.ensures ∙ ap (λ t. begins g.K.Kind.head_of t at) c.loop-count.invariant.0 in
    let here = tells.answer ∙ ap (λ t. form_in g.K.Kind.head_of g.K.Kind.fields_of g.K.Kind.empty g.K.Kind.filled t at) c.loop-count.invariant.0 in
    let inside : count < length out = omega arith in
    let room : count < length c.args.out.now = omega arith in
    let written = take_more_set out count c.in_ok-record.field-0 inside in (
      tells.same ∙ c.loop-count.invariant.0,
      drop-set-lt (count + 1) out count c.in_ok-record.field-0 (omega arith) ∙ sym (drop-drop 1 count out) ∙ ap (drop 1) c.loop-count.invariant.1 ∙ drop-drop 1 count c.args.out.now,
      ap (λ rs. list_on g.K.Kind.head_of g.K.Kind.fields_of g.K.Kind.empty g.K.Kind.filled c.args.self.now.text.now (length c.args.out.now - (count + 1)) rs c.form.new.self.at) written
          ∙ list_more _ _ _ _ _ _ _ _ _ _ _ room starts here ∙ c.loop-count.invariant.2,
    )

pub returns-then-begins_with : goal.returns-then-begins_with
returns-then-begins_with g c =
    let at = c.loop-count.self.at in
    let starts = c.if-begins_with.ensures ∙ ap (λ h. begins h c.loop-count.self.text.now at) c.first_head-head.ensures ∙ ap (λ t. begins g.K.Kind.head_of t at) c.loop-count.invariant.0 in
    let past : length c.args.out.now ≤ c.loop-count.count = omega arith in
    record { answer = listed_err _ _ _ _ _ (list_full _ _ _ _ _ _ _ _ _ past starts ∙ c.loop-count.invariant.2); same = c.loop-count.invariant.0; reads = reads_lists _ _ _ _ g.K.Kind.lettered }

pub returns-else-begins_with : goal.returns-else-begins_with
returns-else-begins_with g c =
    let at = c.loop-count.self.at in
    let out = c.loop-count.out in
    let count = c.loop-count.count in
    let stops = c.if-begins_with.ensures ∙ ap (λ h. begins h c.loop-count.self.text.now at) c.first_head-head.ensures ∙ ap (λ t. begins g.K.Kind.head_of t at) c.loop-count.invariant.0 in
    let long = length-take-le count out (omega arith) in
    let whole : length out ≡ count = omega arith in
    record {
      answer = listed_ok _ (take count out) _ _ _ _ (list_end _ _ _ _ _ _ _ _ stops ∙ c.loop-count.invariant.2) (whole ∙ sym long) (sym (take-append-drop count out) ∙ ap (λ l. take count out ++ l) (c.loop-count.invariant.1 ∙ ap (λ n. drop n c.args.out.now) (sym long)));
      same = c.loop-count.invariant.0;
      reads = reads_lists _ _ _ _ g.K.Kind.lettered;
    }
