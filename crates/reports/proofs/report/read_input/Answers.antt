-- `reports::report::read_input` meets its contract: the part that is read is the start of the input.
use Rattle.std.proofs.Common.{ap, ◌∙◌, ℕ, List, arith}
use Rattle.rules.specs.Files.{read_file}
use Rattle.tables.specs.Views.{table_answer}
use Rattle.reports.proofs.Reporting.{start_is}
use Rattle.reports.proofs.report.read_input.Goals as goal

pub returns : goal.returns
returns c =
    c.read_file.ensures ∙ ap (λ (s : List ℕ). table_answer (read_file s)) (start_is c.args.input.now c.min.result (omega (arith, c.min.ensures)))
