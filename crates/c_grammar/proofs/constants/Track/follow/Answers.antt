use Rattle.std.proofs.Common.{Some, refl}
use Rattle.c_grammar.specs.declared.constants.Track.{Track}
use Rattle.c_grammar.proofs.Tracking.{track_more}
use Rattle.c_grammar.proofs.constants.Track.follow.Goals as goal

pub returns : goal.returns
returns c = λ before h.
    let new : Track = record { last = Some c.args.item; kind = c.kind_behind-self.result; opened = c.opened_by-self.result; is_static = c.static_behind-self.result } in
    track_more before c.args.item c.args.self.now new c.declares.result h (c.declares.ensures before h) refl c.kind_behind-self.ensures c.opened_by-self.ensures c.static_behind-self.ensures
