-- A printer before and after it printed a text.
use Rattle.std.specs.Prelude.{List, ◌≡◌, ℕ}
use Rattle.report.specs.declared.Printer.{Printer}
use Rattle.report.specs.Put.{Put}

-- the text is put where the printer stood, and it still prints into the same buffer
pub record Prints (before : Printer) (s : List ℕ) (after : Printer) : Type 0 where
  pub put : Put before.out.now before.at s after.out.now after.at
  pub same_buffer : after.out.ghost_name ≡ before.out.ghost_name
