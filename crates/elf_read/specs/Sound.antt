-- What is known of a file that no rule refuses.
use Rattle.std.specs.Prelude.{ℕ, ◌<◌, List, IfSome}
use Rattle.tests.specs.Files.Header.{e_shnum}
use Rattle.tests.specs.Files.Fields.{section_header}
use Rattle.tests.specs.Files.Rules.{symbol_table}

-- the symbol table, where there is one, names a section with its strings
pub record HasLinks (file : List ℕ) : Type 0 where
  pub links : IfSome (symbol_table file) (λ i. (section_header file i).link < e_shnum file)
