use Rattle.std.proofs.Common.{pos}
use Rattle.banks.proofs.Made.{each_made}
use Rattle.cells.proofs.desk.table_of.Goals as goal

pub returns : goal.returns
returns g c =
    record {
      long = c.from_fn.ensures.items.long;
      each = each_made _ (λ i y. g.F.Fn.post c.args.cell (i, tt) y) _ (λ i y q called. (g.met.F.Fn.1.step_stays _ _ _ _ called, (g.met.F.FnMut.1.post_iff _ _ _).1 (q, called))) c.from_fn.result (pos 0) 952 c.from_fn.ensures.items;
    }
