-- `capi::table::zq_open` meets its contract.
use Rattle.std.proofs.Common.{ap, ◌∙◌}
use Rattle.rules.specs.Files.{read_file}
use Rattle.capi.specs.Calls.{open_file, read, opened}
use Rattle.capi.specs.Answers.{line_in}
use Rattle.capi.proofs.Opening.{file_takes, takes_startable, open_replied, open_line}
use Rattle.capi.proofs.table.zq_open.Goals as goal

pub open_table-requires : goal.open_table-requires
open_table-requires c = takes_startable _ (file_takes _) c.read_file-taken.ensures

pub returns : goal.returns
unfolding opened open_file
returns c =
    let state = c.args.state.now in
    let file = read_file c.args.file.now in
    let read_is = c.read_file-taken.ensures in
    let answer = open_replied file state _ c.settle.ensures read_is c.open_table.ensures in
    let line = c.line_of.ensures ∙ ap line_in read_is ∙ open_line file state in
    λ j. read (answer j) (line j)
