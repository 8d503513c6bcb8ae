-- The memory of a generated test: its code, the table of its functions, and its data.
use Rattle.std.proofs.Common.{◌≡◌, inr, ⊎_elim, ℕ, zero, suc, ◌+◌, ◌*◌, ◌<◌, ◌≤◌, true, false, cond, List, [], ◌∷◌, ◌++◌, length, Some, refl, sym, ap, ◌∙◌, subst, append_assoc, arith}
use Rattle.std.proofs.lemmas.Bool.{cases_lt}
use Rattle.std.proofs.lemmas.List.{append-nil}
use Rattle.elf_types.specs.declared.file.Symbol.{Symbol}
use Rattle.machine.specs.Below.{gather}
use Rattle.tests.specs.Options.{default_options}
use Rattle.machine.specs.Numbers.{number_bytes, field}
use Rattle.machine.specs.Memory.{Memory, allows, wrap, number, grants, byte_in, get}
use Rattle.machine.specs.Program.{LoadSegment, memory_of}
use Rattle.machine.specs.Loading.{load_segment, ElfFile}
use Rattle.machine.specs.Cells.{has, cell_at, cell_among, byte_among, number_among}
use Rattle.machine.specs.Step.{Fetched, HasAt, fetched_at, Ins}
use Rattle.tests.specs.Admission.CodeWords.{loads_of, ranges_of}
use Rattle.tests.specs.Admission.Refusals.{IsAdmitted}
use Rattle.machine.proofs.Lemmas.{has_from, has_not, get_among, number-among, grants_from}
use Rattle.qed_model.proofs.Lemmas.{StandFrom, IsCodeOf}
use Rattle.tests.proofs.Lemmas.{IsShapely, known_instruction, field-number_bytes, all_sized_among}
use Rattle.tests.specs.Elf.Sound.{AreLoads}
use Rattle.test_gen.specs.Code.{function, main, code}
use Rattle.elf_write.specs.Plain.{segment}
use Rattle.test_gen.specs.Generated.{function_at, generated_table_bytes}
use Rattle.test_gen.proofs.Functions.{length-main, length-functions}
use Rattle.test_gen.proofs.Sizes.{length-numbers}
use Rattle.test_gen.proofs.Runs.{HasData}
use Rattle.test_gen.proofs.MainRun.{IsMade, has_right}
use Rattle.test_gen.proofs.Shape.{file_of, AreSized}
use Rattle.test_gen.proofs.Stands.{field_first}
use Rattle.weave_core.proofs.Lemmas.{has_front}

-- ---- lists that are gathered
-- number i among numbers of 8 bytes
record IsSplit (xs : List ℕ) (i v : ℕ) : Type 0 where
  front : List ℕ
  rest : List ℕ
  is : xs ≡ front ++ (number_bytes 8 v ++ rest)
  size : length front ≡ 8 * i

split_numbers : (n i : ℕ) (f : ℕ → ℕ) → i < n → IsSplit (gather n (λ k. number_bytes 8 (f k))) i (f i)
unfolding gather
split_numbers zero i f h = absurd (omega (arith, h))
split_numbers (suc n) i f h =
    let before : List ℕ = gather n (λ k. number_bytes 8 (f k)) in
    let last : List ℕ = number_bytes 8 (f n) in
    ⊎_elim
    (λ l. let s = split_numbers n i f l in record {
      front = s.front;
      rest = s.rest ++ last;
      is = ap (λ xs. xs ++ last) s.is ∙ append_assoc s.front (number_bytes 8 (f i) ++ s.rest) last ∙ ap (λ xs. s.front ++ xs) (append_assoc (number_bytes 8 (f i)) s.rest last);
      size = s.size;
    })
    (λ l. let e : n ≡ i = omega (arith, l, h) in record {
      front = before;
      rest = [];
      is = ap (λ xs. before ++ xs) (sym (append-nil last) ∙ ap (λ k. number_bytes 8 (f k) ++ []) e);
      size = length-numbers n f ∙ ap (λ k. 8 * k) e;
    })
    (cases_lt i n)

has_gathered : (c : ℕ → Fetched) (a seed n i b : ℕ) → HasAt c a (gather n (function seed)) → i < n → a + 132 * i ≡ b → HasAt c b (function seed i)
unfolding gather
has_gathered c a seed zero i b h l e = absurd (omega (arith, l))
has_gathered c a seed (suc n) i b h l e =
    ⊎_elim
    (λ k. has_gathered c a seed n i b (has_front c a (gather n (function seed)) (function seed n) h) k e)
    (λ k.
    let same : n ≡ i = omega (arith, k, l) in
    subst (λ j. HasAt c b (function seed j)) same (has_right c a (gather n (function seed)) (function seed n) b h (omega (arith, e, same, length-functions seed n))))
    (cases_lt i n)

-- ---- segments behind others
number_skip : (s : LoadSegment) (ss : List LoadSegment) (a n : ℕ) → s.address + s.size ≤ a → number_among (s ∷ ss) a n ≡ number_among ss a n
unfolding number_among
number_skip s ss a zero h = refl
number_skip s ss a (suc n) h =
    let off : has s a ≡ false = has_not s a (inr h) in
    let byte : byte_among (s ∷ ss) a ≡ byte_among ss a = ap (λ b. byte_in (cond b (Some (cell_at s a)) (cell_among ss a))) off in
    ap (λ b. b + 256 * number_among (s ∷ ss) (a + 1) n) byte ∙ ap (λ x. byte_among ss a + 256 * x) (number_skip s ss (a + 1) n (omega (arith, h)))

cell_skip : (s : LoadSegment) (ss : List LoadSegment) (q : ℕ) → s.address + s.size ≤ q → cell_among (s ∷ ss) q ≡ cell_among ss q
cell_skip s ss q h = ap (λ b. cond b (Some (cell_at s q)) (cell_among ss q)) (has_not s q (inr h))

cell_first : (s : LoadSegment) (ss : List LoadSegment) (q : ℕ) → s.address ≤ q → q < s.address + s.size → cell_among (s ∷ ss) q ≡ Some (cell_at s q)
cell_first s ss q low high = ap (λ b. cond b (Some (cell_at s q)) (cell_among ss q)) (has_from s q low high)

-- ---- the file
module _ (seed n : ℕ) (code_part words : List ℕ) (symbols : List Symbol) (x y z : ℕ) (sized : AreSized n code_part (generated_table_bytes n) words) where
  abbrev f : ElfFile
  f = file_of code_part (generated_table_bytes n) words symbols x y z

  abbrev m : Memory
  m = memory_of (loads_of f)

  abbrev first : LoadSegment
  first = load_segment (segment 5 0x10000 code_part)

  abbrev second : LoadSegment
  second = load_segment (segment 4 0x80000 (generated_table_bytes n))

  abbrev third : LoadSegment
  third = load_segment (segment 6 0x90000 words)

  code_end : 0x10000 + length code_part ≤ 0x80000
  code_end = let s = sized.code_size in let k = sized.few in omega (arith, s, k)

  table_end : 0x80000 + length (generated_table_bytes n) ≤ 0x90000
  table_end = let s = sized.table_size in let k = sized.few in omega (arith, s, k)

  module _ (loads : AreLoads (loads_of f)) where
    cell_of : (q : ℕ) (s : LoadSegment) → cell_among (first ∷ second ∷ third ∷ []) q ≡ Some (cell_at s q) → get m q ≡ Some (cell_at s q)
    cell_of q s e = get_among (loads_of f) q (all_sized_among (loads_of f) loads.sized) ∙ e

    data_cell : (k : ℕ) → k < 2048 → get m (0x90000 + k) ≡ Some (cell_at third (0x90000 + k))
    data_cell k h =
        let s = sized.words_size in
        let q = 0x90000 + k in
        cell_of q third (cell_skip first (second ∷ third ∷ []) q (omega (arith, code_end)) ∙ cell_skip second (third ∷ []) q (omega (arith, table_end)) ∙ cell_first third [] q (omega arith) (omega (arith, h, s)))

    data_there : HasData m
    data_there = record { reads = λ k h. ap (allows (λ f. f.read)) (data_cell k h); writes = λ k h. ap (allows (λ f. f.write)) (data_cell k h) }

    table_cell : (k : ℕ) → k < 8 * n → get m (0x80000 + k) ≡ Some (cell_at second (0x80000 + k))
    table_cell k h =
        let s = sized.table_size in
        let q = 0x80000 + k in
        cell_of q second (cell_skip first (second ∷ third ∷ []) q (omega (arith, code_end)) ∙ cell_first second (third ∷ []) q (omega arith) (omega (arith, h, s)))

    table_reads : (i : ℕ) → i < n → grants (λ f. f.read) m (0x80000 + 8 * i) 8 ≡ true
    table_reads i h =
        let few = sized.few in
        grants_from (λ f. f.read) m (0x80000 + 8 * i) 8 (λ j l.
        let here : wrap (0x80000 + 8 * i + j) ≡ 0x80000 + (8 * i + j) = omega (arith, h, l, few) in
        ap (λ q. allows (λ f. f.read) (get m q)) here ∙ ap (allows (λ f. f.read)) (table_cell (8 * i + j) (omega (arith, h, l))))

    table_entries : (i : ℕ) → i < n → number m (0x80000 + 8 * i) 8 ≡ function_at i
    unfolding generated_table_bytes
    table_entries i h =
        let few = sized.few in
        let size = sized.table_size in
        let s = split_numbers n i function_at h in
        number-among (loads_of f) (0x80000 + 8 * i) 8 (all_sized_among (loads_of f) loads.sized) (omega (arith, h, few))
        ∙ number_skip first (second ∷ third ∷ []) (0x80000 + 8 * i) 8 (omega (arith, code_end))
        ∙ field_first second (third ∷ []) (8 * i) 8 (omega (arith, h, size))
        ∙ ap (field (8 * i) 8) s.is
        ∙ field-number_bytes 8 (function_at i) (8 * i) s.front s.rest s.size (omega (arith, h, few))

    -- the instructions of the code are fetched
    has_stood : (shape : IsShapely f) (a : ℕ) (is : List Ins) → StandFrom f a is → HasAt (fetched_at m (ranges_of f)) a is
    has_stood shape a [] h = tt
    has_stood shape a (i ∷ is) h = (known_instruction f shape a i h.0, has_stood shape (a + 4) is h.1)

    pub is_made : IsCodeOf f 0x10000 (code seed n) → IsAdmitted f default_options → IsMade m (ranges_of f) seed n
    unfolding code
    is_made known admitted =
        let shape : IsShapely f = record { loads = loads; sections = admitted.sections; segments = admitted.segments } in
        let all = has_stood shape 0x10000 (code seed n) known.stand in
        let behind = has_right (fetched_at m (ranges_of f)) 0x10000 (main n) (gather n (function seed)) 0x10030 all (omega (arith, length-main n)) in
        record {
          few = sized.few;
          data_there = data_there;
          reads = table_reads;
          entries = table_entries;
          main_there = has_front (fetched_at m (ranges_of f)) 0x10000 (main n) (gather n (function seed)) all;
          functions_there = λ i h. has_gathered (fetched_at m (ranges_of f)) 0x10030 seed n i (function_at i) behind h (omega arith);
        }
