-- Lists whose innermost comes last.
use Rattle.std.proofs.Common.{◌≡◌, List, [], ◌∷◌, ◌++◌, refl}
use Rattle.std.proofs.lemmas.List.{reverse-append}
use Rattle.reading_states.specs.declared.unfinished.Frame.{Frame}
use Rattle.reading_states.specs.declared.unfinished.Link.{Link}
use Rattle.reading_states.specs.Views.{as_frame, as_frames, as_link, as_links}

pub frames_none : as_frames [] ≡ []
unfolding as_frames
frames_none = refl

pub frames_more : (list : List Frame) (x : Frame) → as_frames (list ++ x ∷ []) ≡ as_frame x ∷ as_frames list
unfolding as_frames
frames_more list x = rw reverse-append refl

pub links_none : as_links [] ≡ []
unfolding as_links
links_none = refl

pub links_more : (list : List Link) (x : Link) → as_links (list ++ x ∷ []) ≡ as_link x ∷ as_links list
unfolding as_links
links_more list x = rw reverse-append refl

pub ruleset innermost = (frames_none, frames_more, links_none, links_more)
