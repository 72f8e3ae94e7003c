use Rattle.csdf_floor.proofs.Makings.{can_idle}
use Rattle.csdf_floor.proofs.book.Book.make_successive.Goals as goal

pub make_room_for-requires-clause-idle : goal.make_room_for-requires-clause-idle
make_room_for-requires-clause-idle c =
    can_idle c.args.self.now.shown.core.plan c.args.self.now.shown.core.now c.args.actor c.args.block.firings c.requires.some c.requires.block.can
