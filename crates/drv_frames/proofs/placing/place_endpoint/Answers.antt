use Rattle.drv_frames.proofs.Places.{refused_same}
use Rattle.drv_frames.proofs.placing.place_endpoint.Goals as goal

pub returns-else-is_isochronous-clause-same : goal.returns-else-is_isochronous-clause-same
returns-else-is_isochronous-clause-same c =
    refused_same c.chain_endpoint.result c.args.book.now c.chain_endpoint.new.book c.args.mem.now c.chain_endpoint.new.mem c.args.periodic.now c.admit.new.self c.chain_endpoint.new.periodic c.args.e c.args.desc.now c.in-Some.placement c.chain_endpoint.ensures.same c.chain_endpoint.ensures.withdrawn c.in-Some.ensures.placed.1 c.requires.fresh
