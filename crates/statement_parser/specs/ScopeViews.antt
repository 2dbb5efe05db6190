-- Which names a scope of the parser holds.
use Rattle.statement_parser.specs.declared.scope.Scope as scopes
use Rattle.statement_parser.specs.declared.scope.Scope.TheVariants as a_scope
use Rattle.statement_parser.specs.Scopes.{Scope, anywhere, has_name, names_before}
use Rattle.statement_parser.specs.Views.{body_view}

abbrev pub scope_of : scopes.Scope → Scope
scope_of a_scope.Anywhere = anywhere
scope_of (a_scope.Procedure takes before) = has_name (names_before takes.now (body_view before.now))
