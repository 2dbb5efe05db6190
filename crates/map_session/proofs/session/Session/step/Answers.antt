use Rattle.std.proofs.Common.{subst, refl, ap, Ok, Err}
use Rattle.map_lines.specs.Present.{rows_at}
use Rattle.statement_parser.specs.Lines.{blank, edit, undo, ask, quit}
use Rattle.statement_parser.specs.LineOf.{line_of, IsLineRead}
use Rattle.statement_parser.specs.Views.{edit_view, request_view, line_view}
use Rattle.statement_parser.specs.declared.line.Line.{Line}
use Rattle.statement_parser.specs.declared.line.Line.TheVariants as a_line
use Rattle.map_edits.specs.Pasts.{parts_of}
use Rattle.undo_shelf.specs.Histories.{pasts_from}
use Rattle.map_machine.specs.declared.Kind.TheVariants.{Silent, Quit}
use Rattle.map_machine.specs.States.{MapState}
use Rattle.map_session.proofs.LineSteps.{read_at, stepped, stepped_reads, stepped_empty, stepped_model, stepped_ask, stepped_refused}
use Rattle.map_session.proofs.session.Session.step.Goals as goal

pub returns-in-Ok-Blank-clause-steps : goal.returns-in-Ok-Blank-clause-steps
returns-in-Ok-Blank-clause-steps g c =
    stepped_empty c.args.self.now c.args.line.now blank Silent c.empty.result
    (read_at c.self.inside.place c.args.self.now.place c.args.line.now (Ok a_line.Blank) (ap (λ (s : MapState). s.place) c.self.view_is) (subst (λ (l : Line). IsLineRead (line_of (rows_at c.self.inside.place) c.args.line.now) line_view (Ok l)) c.in-Ok-Blank.field-0-is c.in-Ok-Blank.ensures.read)) refl c.empty.ensures

pub returns-in-Ok-Edit-clause-steps : goal.returns-in-Ok-Edit-clause-steps
returns-in-Ok-Edit-clause-steps g c =
    stepped c.args.self.now c.edit.new.self c.args.line.now (edit (edit_view c.in-Ok-Edit.edit)) c.edit.result
    (read_at c.self.inside.place c.args.self.now.place c.args.line.now (Ok (a_line.Edit c.in-Ok-Edit.edit)) (ap (λ (s : MapState). s.place) c.self.view_is) (subst (λ (l : Line). IsLineRead (line_of (rows_at c.self.inside.place) c.args.line.now) line_view (Ok l)) c.in-Ok-Edit.field-0-is c.in-Ok-Edit.ensures.read)) c.edit.ensures.does

pub returns-in-Ok-Edit-clause-reads : goal.returns-in-Ok-Edit-clause-reads
returns-in-Ok-Edit-clause-reads g c =
    stepped_reads c.args.self.now c.args.line.now (edit (edit_view c.in-Ok-Edit.edit)) (g.M.Tally.counts c.args.tally.now) (g.M.Tally.counts c.edit.new.tally)
    (read_at c.self.inside.place c.args.self.now.place c.args.line.now (Ok (a_line.Edit c.in-Ok-Edit.edit)) (ap (λ (s : MapState). s.place) c.self.view_is) (subst (λ (l : Line). IsLineRead (line_of (rows_at c.self.inside.place) c.args.line.now) line_view (Ok l)) c.in-Ok-Edit.field-0-is c.in-Ok-Edit.ensures.read)) c.edit.ensures.reads

pub returns-in-Ok-Undo-clause-steps : goal.returns-in-Ok-Undo-clause-steps
returns-in-Ok-Undo-clause-steps g c =
    stepped c.args.self.now c.undo.new.self c.args.line.now undo c.undo.result
    (read_at c.self.inside.place c.args.self.now.place c.args.line.now (Ok a_line.Undo) (ap (λ (s : MapState). s.place) c.self.view_is) (subst (λ (l : Line). IsLineRead (line_of (rows_at c.self.inside.place) c.args.line.now) line_view (Ok l)) c.in-Ok-Undo.field-0-is c.in-Ok-Undo.ensures.read)) c.undo.ensures.does

pub returns-in-Ok-Undo-clause-reads : goal.returns-in-Ok-Undo-clause-reads
returns-in-Ok-Undo-clause-reads g c =
    stepped_reads c.args.self.now c.args.line.now undo (g.M.Tally.counts c.args.tally.now) (g.M.Tally.counts c.undo.new.tally)
    (read_at c.self.inside.place c.args.self.now.place c.args.line.now (Ok a_line.Undo) (ap (λ (s : MapState). s.place) c.self.view_is) (subst (λ (l : Line). IsLineRead (line_of (rows_at c.self.inside.place) c.args.line.now) line_view (Ok l)) c.in-Ok-Undo.field-0-is c.in-Ok-Undo.ensures.read)) c.undo.ensures.reads

pub returns-in-Ok-Ask-clause-steps : goal.returns-in-Ok-Ask-clause-steps
returns-in-Ok-Ask-clause-steps g c =
    stepped_ask c.args.self.now c.args.line.now (request_view c.in-Ok-Ask.request) c.answer.result
    (read_at c.self.inside.place c.args.self.now.place c.args.line.now (Ok (a_line.Ask c.in-Ok-Ask.request)) (ap (λ (s : MapState). s.place) c.self.view_is) (subst (λ (l : Line). IsLineRead (line_of (rows_at c.self.inside.place) c.args.line.now) line_view (Ok l)) c.in-Ok-Ask.field-0-is c.in-Ok-Ask.ensures.read)) c.answer.ensures.says

pub returns-in-Ok-Ask-clause-reads : goal.returns-in-Ok-Ask-clause-reads
returns-in-Ok-Ask-clause-reads g c =
    stepped_reads c.args.self.now c.args.line.now (ask (request_view c.in-Ok-Ask.request)) (g.M.Tally.counts c.args.tally.now) (g.M.Tally.counts c.answer.new.tally)
    (read_at c.self.inside.place c.args.self.now.place c.args.line.now (Ok (a_line.Ask c.in-Ok-Ask.request)) (ap (λ (s : MapState). s.place) c.self.view_is) (subst (λ (l : Line). IsLineRead (line_of (rows_at c.self.inside.place) c.args.line.now) line_view (Ok l)) c.in-Ok-Ask.field-0-is c.in-Ok-Ask.ensures.read)) c.answer.ensures.reads

pub returns-in-Ok-Model-clause-steps : goal.returns-in-Ok-Model-clause-steps
returns-in-Ok-Model-clause-steps g c =
    stepped_model c.self.inside.header c.self.inside.place c.later-self-inside.result c.self.inside.engine (pasts_from (parts_of c.self.inside.engine) c.self.inside.history) c.args.self.now c.args.line.now c.in-Ok-Model.language c.empty-in-Ok-Model.result c.self.view_is c.later-self-inside.ensures
    (read_at c.self.inside.place c.args.self.now.place c.args.line.now (Ok (a_line.Model c.in-Ok-Model.language)) (ap (λ (s : MapState). s.place) c.self.view_is) (subst (λ (l : Line). IsLineRead (line_of (rows_at c.self.inside.place) c.args.line.now) line_view (Ok l)) c.in-Ok-Model.field-0-is c.in-Ok-Model.ensures.read)) c.empty-in-Ok-Model.ensures

pub returns-in-Ok-Quit-clause-steps : goal.returns-in-Ok-Quit-clause-steps
returns-in-Ok-Quit-clause-steps g c =
    stepped_empty c.args.self.now c.args.line.now quit Quit c.empty-in-Ok-Quit.result
    (read_at c.self.inside.place c.args.self.now.place c.args.line.now (Ok a_line.Quit) (ap (λ (s : MapState). s.place) c.self.view_is) (subst (λ (l : Line). IsLineRead (line_of (rows_at c.self.inside.place) c.args.line.now) line_view (Ok l)) c.in-Ok-Quit.field-0-is c.in-Ok-Quit.ensures.read)) refl c.empty-in-Ok-Quit.ensures

pub returns-clause-steps : goal.returns-clause-steps
returns-clause-steps g c =
    stepped_refused c.args.self.now c.args.line.now c.in-Err.refusal c.in_ok-cause-in-Err.cause.items c.deref.result.now c.refused.result
    (read_at c.self.inside.place c.args.self.now.place c.args.line.now (Err c.in-Err.refusal) (ap (λ (s : MapState). s.place) c.self.view_is) c.in-Err.ensures.read) c.in_ok-cause-in-Err.ensures c.deref.ensures.value c.refused.ensures
