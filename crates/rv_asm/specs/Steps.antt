-- One line more, for the code that goes from line to line.
use Rattle.std.specs.Prelude.{ℕ, ◌+◌, Bool, true, false, if◌then◌else◌}
use Rattle.rv_asm.specs.declared.heads.Head.{Head}
use Rattle.rv_asm.specs.declared.place.Place.{Place}
use Rattle.rv_asm.specs.Assembled.{is_data_start, gives_code, gives_data}

abbrev pub one_if : Bool → ℕ
one_if b = if b then 1 else 0

abbrev pub code_step : Bool → Head → ℕ
code_step true head = 0
code_step false head = one_if (gives_code head)

abbrev pub data_step : Bool → Head → ℕ
data_step true head = one_if (gives_data head)
data_step false head = 0

abbrev pub next_place : Place → Head → Place
next_place p head = record {
  in_data = if p.in_data then true else is_data_start head;
  code_words = p.code_words + code_step p.in_data head;
  data_words = p.data_words + data_step p.in_data head;
}
