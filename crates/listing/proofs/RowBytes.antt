-- The words of new code have as many bytes as the rows of their roles.
use Rattle.std.proofs.Common.{◌≡◌, ℕ, ◌+◌, Bool, Option, None, List, [], ◌∷◌, ◌++◌, refl, ap, ◌∙◌, arith}
use Rattle.elf_types.specs.declared.file.ElfFile.{ElfFile}
use Rattle.qed_model.specs.declared.item.Item.{Item}
use Rattle.tests.specs.declared.options.Options.{Options}
use Rattle.qed_model.specs.declared.role.Role.{Role}
use Rattle.qed_model.specs.declared.role.RoleRow.{RoleRow}
use Rattle.qed_model.specs.Weave.Placed.{sum_of_sizes}
use Rattle.qed_model.specs.Weave.Parts.{joined, compares, item_rows, role_rows}
use Rattle.qed_model.specs.Weave.Sequences.{Block}
use Rattle.qed_model.specs.Weave.Woven.{new_code, new_roles, size_of_code}
use Rattle.qed_model.proofs.Lemmas.{size-append, roles_cover}
use Rattle.listing.specs.Roles.{rows_bytes}

items_size : (far : Bool) (of : Role) (before : Option ℕ) (items : List Item) (rows : List RoleRow) → rows_bytes (item_rows far of before items ++ rows) ≡ sum_of_sizes far items + rows_bytes rows
items_size far of before [] rows = omega arith
items_size far of before (i ∷ is) rows = omega (arith, items_size far of (compares i) is rows)

parts_size : (far : Bool) (ps : List (Role × List Item)) → rows_bytes (role_rows far ps) ≡ sum_of_sizes far (joined ps)
parts_size far [] = refl
parts_size far (p ∷ ps) = omega (arith, items_size far p.0 None p.1 (role_rows far ps), parts_size far ps, size-append far p.1 (joined ps))

pub roles_size : (f : ElfFile) (o : Options) (blocks : List Block) → rows_bytes (new_roles f o blocks) ≡ size_of_code (new_code f o blocks)
roles_size f o blocks =
    parts_size (new_code f o blocks).far (new_code f o blocks).parts ∙ ap (λ is. sum_of_sizes (new_code f o blocks).far is) (roles_cover o.lean f o blocks)
