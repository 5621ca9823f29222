use Rattle.std.proofs.Common.{rules}
use Rattle.text.specs.Numbers.{number_at}
use Rattle.text.proofs.Decimal.{one_writing}
use Rattle.text.proofs.Fronts.{with_minus, with_none}
use Rattle.text.proofs.Readback.{reads_writings, reads_fronts, taken_within}
use Rattle.text.proofs.Refused.{refuses_where}
use Rattle.text.proofs.number.number.Goals as goal

pub returns-in-45 : goal.returns-in-45
returns-in-45 c =
    record {
      answer = search (rules, with_minus);
      within = taken_within _ _ (search (rules, with_minus));
      writings = one_writing;
      reads = reads_writings;
      fronts = reads_fronts;
      refuses = refuses_where;
    }

pub returns-in-len1-up : goal.returns-in-len1-up
returns-in-len1-up c =
    record {
      answer = search (rules, with_none);
      within = taken_within _ _ (search (rules, with_none));
      writings = one_writing;
      reads = reads_writings;
      fronts = reads_fronts;
      refuses = refuses_where;
    }

pub returns-in-45-2 : goal.returns-in-45-2
unfolding number_at
returns-in-45-2 c = record { answer = search rules; within = tt; writings = one_writing; reads = reads_writings; fronts = reads_fronts; refuses = refuses_where }

pub returns-in-empty : goal.returns-in-empty
unfolding number_at
returns-in-empty c = record { answer = search rules; within = tt; writings = one_writing; reads = reads_writings; fronts = reads_fronts; refuses = refuses_where }
