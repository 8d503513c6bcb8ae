-- What is woven from the file of a test: its new code, word for word, in the form that is asked for, the file that has
-- it, and the numbers of the plan.
use Rattle.std.specs.Prelude.{◌≡◌, ℕ, ◌^◌, ◌<◌, ◌≤◌, nat_lt, Bool, true, false, cond, Option, Some, None, List, length, map, slice_index}
use Rattle.elf_types.specs.declared.output.OutFile.{OutFile}
use Rattle.machine.specs.declared.limits.Limit.{Limit}
use Rattle.machine.specs.declared.limits.Limit.TheVariants as limit
use Rattle.machine.specs.declared.limits.TheConstants.{MAX_NEAR_CODE_BYTES}
use Rattle.machine.specs.Limits.{limit_of}
use Rattle.qed_model.specs.declared.bounds.Bounds.{Bounds}
use Rattle.qed_model.specs.declared.plan.EntryRow.{EntryRow}
use Rattle.qed_model.specs.declared.plan.Plan.{Plan}
use Rattle.qed_model.specs.declared.role.Role.{Role}
use Rattle.qed_model.specs.declared.role.RoleRow.{RoleRow}
use Rattle.machine.specs.Numbers.{bytes_of}
use Rattle.qed_model.specs.Weave.Sequences.{Item, Block}
use Rattle.qed_model.specs.Weave.Code.{sequences, code_of}
use Rattle.qed_model.specs.Weave.Forms.{form_of, shape_of}
use Rattle.qed_model.specs.Weave.Placed.{Decode, sum_of_sizes, rows_from, placed}
use Rattle.tests.specs.Elf.Layout.{written}
use Rattle.tests.specs.Admission.Places.{base_of, ElfFile, image_of, half_of, code_place}
use Rattle.tests.specs.declared.options.Options.{Options}
use Rattle.tests.specs.Admission.DataRanges.{range_of, data_ranges, word_count}
use Rattle.qed_model.specs.Weave.OutputFile.{has_table, file_of, piece_rows}
use Rattle.qed_model.specs.Weave.Bounds.{bounds_of}
use Rattle.qed_model.specs.Weave.LeanBounds.{lean_bounds}
use Rattle.qed_model.specs.Weave.LeanCode.{lean_items}
use Rattle.qed_model.specs.Weave.Parts.{joined, parts, code_parts, role_rows}
use Rattle.qed_model.specs.Weave.LeanParts.{lean_parts}

-- ---- with a comparison behind each piece
-- the items of the form
abbrev pub items_in : ElfFile → Options → Bool → List Block → List Item
items_in f o far blocks = code_of (sequences (form_of f o far)) (half_of o.half (image_of f)) f.entry blocks

-- the far form is taken where the near one has more bytes than a JAL spans
abbrev pub is_far_code : ElfFile → Options → List Block → Bool
is_far_code f o blocks = nat_lt MAX_NEAR_CODE_BYTES (sum_of_sizes false (items_in f o false blocks))

abbrev pub new_items : ElfFile → Options → List Block → List Item
new_items f o blocks = items_in f o (is_far_code f o blocks) blocks

-- how many bytes it has
abbrev pub code_size : ElfFile → Options → List Block → ℕ
code_size f o blocks = sum_of_sizes (is_far_code f o blocks) (new_items f o blocks)

-- the new addresses of the entries
abbrev pub new_entries : ElfFile → Options → List Block → List EntryRow
new_entries f o blocks = rows_from (is_far_code f o blocks) (code_place o.half (image_of f)) (new_items f o blocks)

-- ---- the new code in some form
-- whether it is far, its items and what they are for, whether the output has a table, the byte limit, and the bounds
pub record NewCode : Type 0 where
  pub far : Bool
  pub items : List Item
  pub parts : List (Role × List Item)
  pub table : Bool
  pub limit : Limit
  pub bounds : Bounds

-- with a comparison behind each piece
abbrev pub compared : ElfFile → Options → List Block → NewCode
compared f o blocks = record {
  far = is_far_code f o blocks;
  items = new_items f o blocks;
  parts = code_parts (parts (form_of f o (is_far_code f o blocks))) (half_of o.half (image_of f)) f.entry blocks;
  table = has_table blocks;
  limit = limit.CodeBytes;
  bounds = bounds_of (shape_of f o (is_far_code f o blocks));
}

-- with one check for all of the code, which has no more bytes than a JAL spans, and a table
abbrev pub lean : ElfFile → Options → ℕ → List Block → NewCode
lean f o every blocks = record {
  far = false;
  items = lean_items f o every blocks;
  parts = lean_parts f o every blocks;
  table = true;
  limit = limit.LeanBytes;
  bounds = lean_bounds f o every;
}

-- the one that is asked for
abbrev pub code_as : Option ℕ → ElfFile → Options → List Block → NewCode
code_as None f o blocks = compared f o blocks
code_as (Some every) f o blocks = lean f o every blocks

-- within how many steps an entry that is reached with the signature of another fires, if it tests the signature
abbrev pub landing : Option ℕ → Bool → Option ℕ
landing None land = Some 4
landing (Some every) land = cond land (Some 4) None

abbrev pub new_code : ElfFile → Options → List Block → NewCode
new_code f o blocks = code_as o.lean f o blocks

-- no item is left out, and none has two roles
abbrev pub RolesCover : Type 0
RolesCover = (form : Option ℕ) (f : ElfFile) (o : Options) (blocks : List Block) → joined (code_as form f o blocks).parts ≡ (code_as form f o blocks).items

-- its bytes with their roles, from its first word on
abbrev pub new_roles : ElfFile → Options → List Block → List RoleRow
new_roles f o blocks = role_rows (new_code f o blocks).far (new_code f o blocks).parts

-- how many bytes it has
abbrev pub size_of_code : NewCode → ℕ
size_of_code c = sum_of_sizes c.far c.items

-- words below 2^32, which decode to its items in their places from an address on
pub record IsCode (c : NewCode) (at : ℕ) (words : List ℕ) : Type 0 where
  pub small : (k : ℕ) → slice_index words k < 2 ^ 32
  pub code : Decode words (placed c.far at c.items)

abbrev pub IsCodeFor : NewCode → ElfFile → Options → List ℕ → Type 0
IsCodeFor c f o words = IsCode c (code_place o.half (image_of f)) words

-- the new addresses of its entries
abbrev pub entries_in : NewCode → ElfFile → Options → List EntryRow
entries_in c f o = rows_from c.far (code_place o.half (image_of f)) c.items

-- ---- the file
-- in which these words are written
abbrev pub file_with : NewCode → ElfFile → Options → List ℕ → OutFile
file_with c f o words = file_of f o.half c.table (entries_in c f o) (bytes_of words)

-- new code of at most 67,108,864 bytes, or 1,048,576 with one check, in at most 4,000 segments and 536,870,912 bytes
pub record IsWithin (c : NewCode) (out : OutFile) : Type 0 where
  pub code : size_of_code c ≤ limit_of c.limit
  pub segments : length out.segments ≤ limit_of limit.OutputSegments
  pub size : length (written out) ≤ limit_of limit.OutputBytes

-- ---- the plan
-- the places, the data words, the size of the new code, its entries and pieces, and the bounds
pub record IsPlanOf (c : NewCode) (f : ElfFile) (o : Options) (blocks : List Block) (plan : Plan) : Type 0 where
  pub base : plan.base ≡ base_of (image_of f)
  pub distance : plan.distance ≡ half_of o.half (image_of f)
  pub words : plan.words ≡ word_count (data_ranges (image_of f))
  pub code_bytes : plan.code_bytes ≡ size_of_code c
  pub entries : plan.entries ≡ entries_in c f o
  pub pieces : plan.pieces ≡ piece_rows blocks
  pub span : map range_of plan.span ≡ data_ranges (image_of f)
  pub bounds : plan.bounds ≡ c.bounds

-- ---- the new code with comparisons
abbrev pub IsNewCode : ElfFile → Options → List Block → List ℕ → Type 0
IsNewCode f o blocks words = IsCodeFor (compared f o blocks) f o words

abbrev pub woven_file : ElfFile → Options → List Block → List ℕ → OutFile
woven_file f o blocks words = file_with (compared f o blocks) f o words
