use Rattle.std.proofs.Common.{◌+◌, ◌*◌, ◌∙◌, ap, arith}
use Rattle.bus_wire.specs.Seats.{place_at, column_of, token_kind}
use Rattle.bus_wire.proofs.Table.{place_by_number}
use Rattle.bus_wire.proofs.places.Places.of_ask.Goals as goal

pub look-requires : goal.look-requires
look-requires c = omega (arith, c.get.ensures.same, c.get.ensures.bound, c.get-2.ensures.same, c.get-2.ensures.bound, c.column.ensures.bound)

pub returns : goal.returns
returns c =
    c.look.ensures
    ∙ ap (λ a. place_at c.args.self.now (a * 64 + c.get-2.result * 4 + c.column.result)) c.get.ensures.same
    ∙ ap (λ n. place_at c.args.self.now (c.args.ask.now.addr * 64 + n * 4 + c.column.result)) c.get-2.ensures.same
    ∙ ap (λ k. place_at c.args.self.now (c.args.ask.now.addr * 64 + c.args.ask.now.ep * 4 + k)) (c.column.ensures.column ∙ ap column_of c.kind_of_token.ensures)
    ∙ place_by_number c.args.self.now c.args.ask.now.addr c.args.ask.now.ep (token_kind c.args.ask.now.pid) c.get-2.ensures.bound
