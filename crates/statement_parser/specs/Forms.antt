-- The forms of Incremental operations, as they are named and as they are defined.
use Rattle.map_defs.specs.Incremental as incremental
use Rattle.map_defs.specs.Incremental.{linkage_form, length_form, partition_form, frontage_form, gradient_form, aspect_form}
use Rattle.statement_parser.specs.declared.op.Form.{Form}
use Rattle.statement_parser.specs.declared.op.Form.TheVariants.{Linkage, Length, Partition, Frontage, Gradient, Aspect}

abbrev pub form_of : Form → incremental.Form
form_of Linkage = linkage_form
form_of Length = length_form
form_of Partition = partition_form
form_of Frontage = frontage_form
form_of Gradient = gradient_form
form_of Aspect = aspect_form

abbrev pub form_row : incremental.Form → Form
form_row linkage_form = Linkage
form_row length_form = Length
form_row partition_form = Partition
form_row frontage_form = Frontage
form_row gradient_form = Gradient
form_row aspect_form = Aspect
