-- The words of an output's new code, with their roles.
use Rattle.std.proofs.Common.{◌≡◌, ℕ, ◌*◌, ◌≤◌, Option, Some, None, List, length, map, arith, ◌∙◌, sym, ap, subst}
use Rattle.elf_types.specs.declared.file.ElfFile.{ElfFile}
use Rattle.tests.specs.declared.options.Options.{Options}
use Rattle.qed_model.specs.declared.plan.Plan.{Plan}
use Rattle.tests.specs.declared.test.Test.{Test}
use Rattle.machine.specs.Limits.{limit_of}
use Rattle.qed_model.specs.Weave.Sequences.{Block}
use Rattle.qed_model.specs.Weave.Woven.{code_as, new_roles, size_of_code}
use Rattle.tests.specs.Files.File.{File}
use Rattle.qed_model.specs.Weave.Output.{HasNewCode}
use Rattle.block_split.specs.declared.block.CodeBlock.{CodeBlock}
use Rattle.block_split.specs.Listed.{block_of}
use Rattle.transform.specs.declared.code.Coded.{Coded}
use Rattle.weave.specs.Code.{code_begin, IsCut}
use Rattle.transform.specs.declared.explained.Explained.{Explained}
use Rattle.transform.specs.Explained.{IsExplained}
use Rattle.transform.specs.Transform.{Transforms}
use Rattle.transform.specs.Unwritten.{code_for, IsCoded}
use Rattle.transform.proofs.Making.{test, size_is}

-- both limits are within the room for the new code
pub most_room : (f : ElfFile) (o : Options) (bs : List Block) (l : Option ℕ) → size_of_code (code_as l f o bs) ≤ limit_of (code_as l f o bs).limit → size_of_code (code_as l f o bs) ≤ 67108864
most_room f o bs None few = few
most_room f o bs (Some every) few = omega (arith, few)

pub explained_of :
    (input : List ℕ) (o : Options) (t : Test) (blocks : List CodeBlock) (output : List ℕ) (plan : Plan) (x : Explained) (code : Coded)
    → Transforms input o output plan → File input x.file → IsCut x.file o t blocks → IsCoded (code_for x.file o blocks) x.file o code → x.words.items ≡ code.linked.words.items
    → x.base ≡ code_begin t → x.roles.items ≡ new_roles x.file o (map block_of blocks) → IsExplained input o x
explained_of input o t blocks output plan x code made read cut is same base roles =
    let size : 4 * length x.words.items ≡ 4 * length code.linked.words.items = ap (λ ws. 4 * length ws) same in
    let whole = size_is x.file o t blocks cut code is in
    let test = test x.file o t blocks cut code is in
    let small = most_room x.file o (map block_of blocks) o.lean is.few in
    record {
      output = output;
      plan = plan;
      made = made;
      blocks = map block_of blocks;
      code = subst (λ ws. HasNewCode input o x.file (map block_of blocks) ws) (sym same) (record { read = read; admitted = test.admitted; are = test.are; code = test.code });
      base = omega (arith, base, cut.told.base, cut.told.distance);
      roles = roles;
      size = size ∙ whole;
      fits = omega (arith, base, cut.told.base, cut.told.distance, cut.blocked.admitted.top, small);
    }
