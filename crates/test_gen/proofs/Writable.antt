-- A generated file can be written.
use Rattle.std.proofs.Common.{◌≡◌, ◌≢◌, inl, inr, ℕ, suc, ◌+◌, ◌*◌, ◌%◌, ◌^◌, ◌<◌, ◌≤◌, false, List, [], ◌∷◌, ◌++◌, length, refl, ap, arith, length-append}
use Rattle.std.specs.Prelude.{All, codes}
use Rattle.std.specs.Fmt.{decimal}
use Rattle.std.proofs.lemmas.Fmt.{decimal_by_steps, length-decimal-le}
use Rattle.std.proofs.lemmas.List.Elements.{All-nil, All-cons, All-append}
use Rattle.elf_types.specs.declared.file.Segment.{Segment}
use Rattle.elf_types.specs.declared.file.Symbol.{Symbol}
use Rattle.machine.specs.Below.{each}
use Rattle.tests.specs.Elf.Written.{offset_from, end_from}
use Rattle.tests.specs.Elf.Layout.{written, names_bytes, symbol_names, own_place, do_share, IsName, IsLoadable, IsPlaced, IsSymbol, null_symbol, IsWritable}
use Rattle.machine.proofs.Lemmas.{length-each, All-each, pairs_all, every_all}
use Rattle.tests.proofs.Lemmas.{name_test, not_shared}
use Rattle.elf_write.proofs.PlainFits.{loadable, offset_room, inside_itself, placed, upper}
use Rattle.test_gen.specs.Generated.{code_bytes, generated_table_bytes, data_bytes, generated_code, generated_table, generated_data, generated_sections, named_function, function_symbol, symbols, generated_file_of}
use Rattle.test_gen.proofs.Sizes.{length-code_bytes, length-table_bytes, length-data_bytes}

-- ---- names
digits_name : (n : ℕ) → n < 2 ^ 64 → IsName (decimal n)
digits_name n h = decimal_by_steps (λ n ds. IsName ds) (λ n l. one n) (λ n ds l so_far. All-append (λ byte. byte ≢ 0) ds ((48 + n % 10) ∷ []) so_far (one (n % 10))) n h where
  one : (n : ℕ) → IsName ((48 + n) ∷ [])
  one n = All-cons (λ byte. byte ≢ 0) (48 + n) [] (λ z. absurd (omega arith)) (All-nil (λ byte. byte ≢ 0))

function_name : (i : ℕ) → i < 1875 → IsName (function_symbol i).name
unfolding function_symbol
function_name i h = All-append (λ byte. byte ≢ 0) (codes "f") (decimal i) (name_test (codes "f") refl) (digits_name i (omega arith))

pub function_name_size : (i : ℕ) → i < 1875 → length (function_symbol i).name ≤ 5
unfolding function_symbol
function_name_size i h = omega (arith, length-append (codes "f") (decimal i), length-decimal-le 4 i (omega arith) (omega arith) (omega arith))

-- ---- symbols
abbrev IsFunction : Symbol → Type 0
IsFunction s = (s.kind ≡ 2) × (s.binding ≡ 1)

is_function : (i : ℕ) → IsFunction (function_symbol i)
unfolding function_symbol
is_function i = (refl, refl)

pub all_symbols : (P : Symbol → Type 0) (n : ℕ) → n ≤ 1875 → P (named_function (codes "main") 0x10000) → ((i : ℕ) → i < 1875 → P (function_symbol i)) → All P (symbols n)
all_symbols P n h first each_one = All-cons P (named_function (codes "main") 0x10000) (each n function_symbol) first (All-each P n function_symbol (λ i l. each_one i (omega arith)))

-- ---- how long the names are
pub names_size : (ss : List Symbol) → All (λ s. length s.name ≤ 5) ss → length (names_bytes (symbol_names ss)) ≤ 6 * length ss
names_size [] h = omega arith
names_size (s ∷ ss) h =
    let first = h 0 s (omega arith) in
    let rest = names_size ss (λ k d l. h (suc k) d (omega (arith, l))) in
    omega (arith, length-append (s.name ++ 0 ∷ []) (names_bytes (symbol_names ss)), length-append s.name (0 ∷ []), first, rest)

-- ---- the whole
three_ends : (at : ℕ) (s t u : Segment) → end_from at (s ∷ t ∷ u ∷ []) ≤ at + 12285 + length s.bytes + length t.bytes + length u.bytes
three_ends at s t u =
    let a = offset_from at s.address + length s.bytes in
    let b = offset_from a t.address + length t.bytes in
    omega (arith, offset_room at s.address, offset_room a t.address, offset_room b u.address)

own_place_room : (seed n : ℕ) → n ≤ 1875 → own_place (generated_file_of seed n) ≤ 300000
unfolding generated_file_of own_place
own_place_room seed n h =
    omega (
      arith,
      three_ends 232 (generated_code seed n) (generated_table n) generated_data,
      length-code_bytes seed n,
      length-table_bytes n,
      length-data_bytes,
    )

small : (seed n : ℕ) → n ≤ 1875 → length (written (generated_file_of seed n)) ≤ 1_000_000
unfolding generated_file_of
small seed n h =
    omega (
      arith,
      upper (generated_file_of seed n),
      own_place_room seed n h,
      names_size (symbols n) (all_symbols (λ s. length s.name ≤ 5) n h (omega arith) (λ i l. function_name_size i l)),
      length-each n function_symbol,
    )

pub writable : (seed n : ℕ) → n ≤ 1875 → IsWritable (generated_file_of seed n)
unfolding generated_file_of
writable seed n h =
    let code = generated_code seed n in
    let table = generated_table n in
    let words = generated_data in
    let code_size = length-code_bytes seed n in
    let table_size = length-table_bytes n in
    let data_size = length-data_bytes in
    let size = small seed n h in
    record {
      segments = every_all IsLoadable (code ∷ table ∷ words ∷ []) (loadable 5 0x10000 (code_bytes seed n) (omega arith), (loadable 4 0x80000 (generated_table_bytes n) (omega arith), (loadable 6 0x90000 data_bytes (omega arith), tt)));
      ascend = pairs_all (λ s t. s.address ≤ t.address) (code ∷ table ∷ words ∷ []) ((omega arith, (omega arith, tt)), ((omega arith, tt), (tt, tt)));
      apart = pairs_all (λ s t. do_share s t ≡ false) (code ∷ table ∷ words ∷ []) ((not_shared code table (omega arith), (not_shared code words (omega arith), tt)), ((not_shared table words (omega arith), tt), (tt, tt)));
      few_segments = omega arith;
      sections = every_all (IsPlaced (code ∷ table ∷ words ∷ [])) (generated_sections code table words) (
        placed (codes ".text") 6 code refl (code ∷ table ∷ words ∷ []) (inl refl) (inside_itself (codes ".text") 6 5 0x10000 (code_bytes seed n)),
        (
          placed (codes ".rodata") 2 table refl (code ∷ table ∷ words ∷ []) (inr (inl refl)) (inside_itself (codes ".rodata") 2 4 0x80000 (generated_table_bytes n)),
          (placed (codes ".data") 3 words refl (code ∷ table ∷ words ∷ []) (inr (inr (inl refl))) (inside_itself (codes ".data") 3 6 0x90000 data_bytes), tt),
        ),
      );
      section_names = every_all (λ x. IsName x.name) (generated_sections code table words) (name_test (codes ".text") refl, (name_test (codes ".rodata") refl, (name_test (codes ".data") refl, tt)));
      few_sections = omega arith;
      symbols = all_symbols IsSymbol n h (record { kind = omega arith; binding = omega arith }) (λ i l. let f = is_function i in record { kind = omega (arith, f.0); binding = omega (arith, f.1) });
      symbol_names = all_symbols (λ s. IsName s.name) n h (name_test (codes "main") refl) (λ i l. function_name i l);
      not_null = all_symbols (λ s. s ≢ null_symbol) n h (λ e. let k = ap (λ (s : Symbol). s.kind) e in absurd (omega arith)) (λ i l e. let k = ap (λ (s : Symbol). s.kind) e in let f = is_function i in absurd (omega (arith, k, f.0)));
      locals_first = λ i j d lt l z. absurd (all_symbols (λ s. s.binding ≢ 0) n h (λ e. absurd (omega arith)) (λ k b e. let f = is_function k in absurd (omega (arith, e, f.1))) j d l z);
      size = omega arith;
    }
