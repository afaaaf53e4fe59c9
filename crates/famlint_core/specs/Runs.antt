-- What a run of the program did for a request.
use Rattle.std.specs.Prelude.{ℕ, ◌≡◌, ◌≤◌, List, Option}
use Rattle.std.specs.Io.KnownBytes.{Appends}
use Rattle.famlint_loads.specs.Contents.{Contents}
use Rattle.famlint_requests.specs.declared.request.Request.{Request}
use Rattle.famlint_requests.specs.Requests.{role_of}
use Rattle.famlint_core.specs.Answers.{Answers, IsLoaded, Promised}
use Rattle.famlint_core.specs.Endings.{Streams, EndsWith}

-- for what the paths of the request hold: the run ended with an answer to the request; at 0 and 1 it appended a text to the output of which the
-- promise holds; and at 6 the path that failed is one that is loaded for this
pub record IsRun (request : Request) (failed : Option (List ℕ)) (status : ℕ) (before after : Streams) (told : Contents) : Type 0 where
  pub answer : EndsWith (Answers request told) (role_of request failed) status before after
  pub promise : status ≤ 1 → (text : List ℕ) × Appends before.out after.out text × Promised request told status text
  pub order : status ≡ 6 → IsLoaded request told failed
