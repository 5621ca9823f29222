use Rattle.std.proofs.Common.{sym}
use Rattle.load.specs.Days.{contents_of}
use Rattle.load.proofs.Loads.{loads_days, names_the_fault, faults_of_forms}
use Rattle.load.proofs.Whole.{accepted, refused}
use Rattle.load.proofs.loading.load.Goals as goal

pub returns-then-is_err : goal.returns-then-is_err
returns-then-is_err c =
    let no =
    refused c.args.text.now (contents_of c.args.lists.now) (contents_of c.clear.new.self) (contents_of c.filled-answer.new.lists) c.filled-answer.result c.clear.ensures c.filled-answer.ensures.kept
    (contents_of c.clear-then-is_err.new.self) (sym c.if-is_err.ensures.value) c.filled-answer.ensures.long c.clear-then-is_err.ensures
    in
    record { answer = no.0; contents = no.1; inside = no.2; days = loads_days; fault = names_the_fault; forms = faults_of_forms }

pub returns-else-is_err : goal.returns-else-is_err
returns-else-is_err c =
    let yes-day =
    accepted c.args.text.now (contents_of c.args.lists.now) (contents_of c.clear.new.self) (contents_of c.filled-answer.new.lists) c.filled-answer.result c.clear.ensures c.filled-answer.ensures.kept
    (sym c.if-is_err.ensures.value)
    in
    record { answer = yes-day.0; contents = yes-day.1; inside = yes-day.2; days = loads_days; fault = names_the_fault; forms = faults_of_forms }
