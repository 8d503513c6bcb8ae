-- How the operands of an instruction are written.
use Rattle.rv_isa.specs.declared.class.Class.{Class}
use Rattle.rv_isa.specs.declared.class.Class.TheVariants as class
use Rattle.rv_isa.specs.Kind.{class_of}
use Rattle.machine.specs.Table.{Format, R, I, H, G, S, B, U, J, N, row_of, Kind}
use Rattle.rv_text.specs.declared.forms.Form.{Form}
use Rattle.rv_text.specs.declared.forms.Form.TheVariants.{Registers, Immediate, Load, Store, Branch, Upper, Jump, Bare}

-- by the format; loads and JALR have an address as the last operand
abbrev pub form_in : Format → Class → Form
form_in R c = Registers
form_in I class.Load = Load
form_in I class.JumpReg = Load
form_in I _ = Immediate
form_in H c = Immediate
form_in G c = Immediate
form_in S c = Store
form_in B c = Branch
form_in U c = Upper
form_in J c = Jump
form_in N c = Bare

unfoldable pub text_form : Kind → Form
text_form k = form_in (row_of k).format (class_of k)
