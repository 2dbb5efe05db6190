-- What the parser's values are, without where they lie in memory.
use Rattle.std.specs.Prelude.{ℕ, nat_abs, List, map, Option, Some, None, Vec}
use Rattle.std.specs.declared.alloc.Global.{Global}
use Rattle.map_words.specs.Bytes.{Text}
use Rattle.map_words.specs.declared.cutting.Word.{Word}
use Rattle.statement_parser.specs.declared.op.Term as terms
use Rattle.statement_parser.specs.declared.op.Term.TheVariants as a_term
use Rattle.statement_parser.specs.declared.op.Reach as reaches
use Rattle.statement_parser.specs.declared.op.Reach.TheVariants as a_reach
use Rattle.statement_parser.specs.declared.op.Op as ops
use Rattle.statement_parser.specs.declared.op.Op.TheVariants as an_op
use Rattle.statement_parser.specs.declared.line.Written as writtens
use Rattle.statement_parser.specs.declared.line.Written.TheVariants as a_written
use Rattle.statement_parser.specs.declared.procedure.Procedure.{Procedure}
use Rattle.statement_parser.specs.declared.line.LineEdit as edits
use Rattle.statement_parser.specs.declared.line.LineEdit.TheVariants as an_edit
use Rattle.statement_parser.specs.declared.line.Item as items
use Rattle.statement_parser.specs.declared.line.Item.TheVariants as an_item
use Rattle.statement_parser.specs.declared.line.Request as requests
use Rattle.statement_parser.specs.declared.line.Request.TheVariants as a_request
use Rattle.statement_parser.specs.declared.line.Line as lines
use Rattle.statement_parser.specs.declared.line.Line.TheVariants as a_line
use Rattle.map_defs.specs.Ops.{Term, layer_term, number_term, Op, local_op, difference_op, ratio_op, rating_op, focal_op, zonal_op, form_op, direction_op, flow_op, spread_op, nearest_op, sight_op, region_op}
use Rattle.map_defs.specs.Statements as meant
use Rattle.map_defs.specs.Statements.{Written, plain, call}
use Rattle.statement_parser.specs.Forms.{form_of}
use Rattle.statement_parser.specs.declared.rows.Rows.{Rows}
use Rattle.statement_parser.specs.Lines.{Manner, Edit, define, paint, new_layer, drop, define_procedure, put_label, put_symbol, Item, make, look_at, Request, ask_value, ask_grid, ask_show, ask_legend, ask_table, ask_stamps, ask_list, ask_branches, Line, blank, edit, undo, ask, model, quit}

-- the texts of words
abbrev pub texts_of : List Word → List Text
texts_of ws = map (λ (w : Word). w.text.now) ws

-- the rows that are there
abbrev pub manner_of : Rows → Manner
manner_of r = record { operations = r.operations.now; commands = r.commands.now; sight = r.sight; calls = r.calls; ignoring = r.ignoring }

abbrev pub term_view : terms.Term → Term
term_view (a_term.Layer n) = layer_term n
term_view (a_term.Number z) = number_term z

abbrev pub terms_view : List terms.Term → List Term
terms_view ts = map term_view ts

abbrev pub reach_view : reaches.Reach → Option ℕ
reach_view a_reach.Square = None
reach_view (a_reach.Disc r) = Some r

abbrev pub op_view : ops.Op → Op
op_view (an_op.Local s ts ignoring) = local_op s ignoring (terms_view ts.items)
op_view (an_op.Difference l r) = difference_op (term_view l) (term_view r)
op_view (an_op.Ratio l r) = ratio_op (term_view l) (term_view r)
op_view (an_op.Rating t rs) = rating_op (term_view t) rs.items
op_view (an_op.Focal s t r) = focal_op s (reach_view r) (term_view t)
op_view (an_op.Zonal s t u) = zonal_op s (term_view t) (term_view u)
op_view (an_op.Incremental f t) = form_op (form_of f) (term_view t)
op_view (an_op.Direction t) = direction_op (term_view t)
op_view (an_op.Flow t u) = flow_op (term_view t) (term_view u)
op_view (an_op.Spread t u limit) = spread_op (nat_abs limit) (term_view t) (term_view u)
op_view (an_op.Neighbor t u limit) = nearest_op (nat_abs limit) (term_view t) (term_view u)
op_view (an_op.Sight t u from to reach) = sight_op (record { from = from; to = to; reach = reach }) (term_view t) (term_view u)
op_view (an_op.Region t) = region_op (term_view t)

abbrev pub written_view : writtens.Written → Written
written_view (a_written.Plain o) = plain (op_view o)
written_view (a_written.Call p ts) = call p (terms_view ts.items)

-- a statement of a procedure
abbrev pub inner_view : Text × writtens.Written → meant.Inner
inner_view i = record { name = i.0; written = written_view i.1 }

abbrev pub body_view : List (Text × writtens.Written) → List meant.Inner
body_view is = map inner_view is

abbrev pub procedure_view : Procedure → meant.Procedure
procedure_view p = record { name = p.name; takes = p.takes.items; body = body_view p.body.items }

abbrev pub edit_view : edits.LineEdit → Edit
edit_view (an_edit.Define n w) = define n (written_view w)
edit_view (an_edit.Procedure p) = define_procedure (procedure_view p)
edit_view (an_edit.Paint n r1 c1 r2 c2 v) = paint n r1 c1 r2 c2 v
edit_view (an_edit.New n v) = new_layer n v
edit_view (an_edit.Drop n) = drop n
edit_view (an_edit.Label n z t) = put_label n z t
edit_view (an_edit.Symbol n z b) = put_symbol n z b

abbrev pub item_view : items.Item → Item
item_view (an_item.Edit e) = make (edit_view e)
item_view (an_item.Value n r c) = look_at n r c

-- the items of a branch
abbrev pub items_view : List items.Item → List Item
items_view is = map item_view is

abbrev pub branches_view : List (Vec items.Item Global) → List (List Item)
branches_view bs = map (λ (b : Vec items.Item Global). items_view b.items) bs

abbrev pub request_view : requests.Request → Request
request_view (a_request.Value n r c) = ask_value n r c
request_view (a_request.Grid n) = ask_grid n
request_view (a_request.Show n) = ask_show n
request_view (a_request.Legend n) = ask_legend n
request_view (a_request.Table n v) = ask_table n v
request_view (a_request.Stamps n) = ask_stamps n
request_view a_request.List = ask_list
request_view (a_request.Branch bs) = ask_branches (branches_view bs.items)

abbrev pub line_view : lines.Line → Line
line_view a_line.Blank = blank
line_view (a_line.Edit e) = edit (edit_view e)
line_view a_line.Undo = undo
line_view (a_line.Ask r) = ask (request_view r)
line_view (a_line.Model l) = model l
line_view a_line.Quit = quit
