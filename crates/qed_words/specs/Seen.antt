-- The arguments of the code as the definition sees them.
use Rattle.qed_words.specs.Words as defined
use Rattle.qed_words.specs.declared.argument.Argument.{Argument}
use Rattle.qed_words.specs.declared.argument.Argument.TheVariants as argument

abbrev pub seen : Argument → defined.Argument
seen (argument.Empty i) = defined.Empty i
seen (argument.Unknown i) = defined.Unknown i
seen (argument.Given i key value) = defined.Given i key value.now
seen (argument.File i name) = defined.File i name.now
