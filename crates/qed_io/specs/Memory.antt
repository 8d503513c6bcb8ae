-- What the shelf and the sink in memory are seen as.
use Rattle.std.specs.Prelude.{ℕ, ◌==◌, List, take, min, Option, Some, None, find, refl}
use Rattle.std.specs.Coded.{Coded, code_by, coded×, coded_ℕ, coded_list, coded_option}
use Rattle.std.specs.FinMap as map
use Rattle.qed_io.specs.Files.{Files}
use Rattle.qed_io.specs.declared.memory_shelf.FailCall.{FailCall}

-- the files, the calls that are to fail, the calls made so far, and the faults so far
pub record ShelfState : Type 0 where
  pub files : Files
  pub failing : List FailCall
  pub calls : ℕ
  pub faults : ℕ

abbrev pub fail_code : Coded FailCall
fail_code = code_by (ℕ × Option ℕ) (coded× coded_ℕ (coded_option coded_ℕ)) (λ f. (f.call, f.keep)) (λ p. record { call = p.0; keep = p.1 }) (λ _. refl)

abbrev pub shelf_code : Coded ShelfState
shelf_code =
    code_by (Files × (List FailCall × (ℕ × ℕ)))
    (coded× (map.code (coded_list coded_ℕ) (coded_list coded_ℕ)) (coded× (coded_list fail_code) (coded× coded_ℕ coded_ℕ)))
    (λ s. (s.files, (s.failing, (s.calls, s.faults)))) (λ p. record { files = p.0; failing = p.1.0; calls = p.1.1.0; faults = p.1.1.1 }) (λ _. refl)

-- the first plan for a call
abbrev pub planned : List FailCall → ℕ → Option FailCall
planned failing call = find (λ f. f.call == call) failing

-- what a failed store of the bytes leaves: the first `keep` of them, all where there are fewer, or the old file
abbrev pub files_left : Option ℕ → Files → List ℕ → List ℕ → Files
files_left None old name bytes = old
files_left (Some keep) old name bytes = map.insert old name (take keep bytes)

-- the bytes written, the calls that are to fail, how many bytes a write takes at most, if that is bounded, the calls
-- made so far, and the faults so far
pub record SinkState : Type 0 where
  pub bytes : List ℕ
  pub failing : List ℕ
  pub most : Option ℕ
  pub calls : ℕ
  pub faults : ℕ

-- how many bytes a write takes of a piece of this length
abbrev pub bytes_taken : Option ℕ → ℕ → ℕ
bytes_taken None size = size
bytes_taken (Some most) size = min size most
