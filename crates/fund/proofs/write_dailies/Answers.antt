-- `write_dailies` meets its contract: before turn i the buffer is filled with the rows of the first i members.
use borrow.Author.Rules.{rules}
use Rattle.numbers.proofs.Filling.{filled_rows_none, filled_rows_more}
use Rattle.fund.proofs.Dailies.{five_wide}
use Rattle.fund.proofs.write_dailies.Goals as goal

pub loop-i-init : goal.loop-i-init
loop-i-init c = filled_rows_none 5 _ (λ e. five_wide e _ _) (search rules) c.requires.sizes.1

pub loop-i-preserved : goal.loop-i-preserved
loop-i-preserved c =
    let w = c.write_five in
    filled_rows_more 5 _ (λ e. five_wide e _ _) (search rules) 0 (search rules) c.loop-i.invariant w.auto.out w.ensures
