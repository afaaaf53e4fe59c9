-- What a text is written as.
use Rattle.std.proofs.Common.{◌≡◌, ℕ, true, ◌+◌, ◌<◌, ◌^◌, List, [], ◌∷◌, ◌++◌, length, take, refl, ap, ◌∙◌}
use Rattle.std.specs.Prelude.{get_or}
use Rattle.std.specs.List.{AllPass}
use Rattle.std.proofs.lemmas.Grind.{flat_map-append}
use Rattle.std.proofs.lemmas.List.{append-nil, take_more}
use Rattle.std.proofs.lemmas.List.Elements.{All-append, All-nil, All-head, All-tail}
use Rattle.alarm_page.specs.Escapes.{escape, escaped, read_back}
use Rattle.alarm_page.specs.Laws.{AreBytes}
use Rattle.alarm_page.proofs.Bytes.{byte_read, byte_written, is_written}

pub text_back : (bytes : List ℕ) → AreBytes bytes → read_back (escaped bytes) ≡ bytes
text_back [] are = refl
text_back (byte ∷ bytes) are =
    byte_read byte (escaped bytes) (All-head (λ b. b < 2 ^ 8) byte bytes are) ∙ ap (λ bs. byte ∷ bs) (text_back bytes (All-tail (λ b. b < 2 ^ 8) byte bytes are))

pub text_written : (bytes : List ℕ) → AreBytes bytes → AllPass is_written (escaped bytes)
text_written [] are = All-nil (λ b. is_written b ≡ true)
text_written (byte ∷ bytes) are =
    All-append (λ b. is_written b ≡ true) (escape byte) (escaped bytes) (byte_written byte (All-head (λ b. b < 2 ^ 8) byte bytes are)) (text_written bytes (All-tail (λ b. b < 2 ^ 8) byte bytes are))

-- what the text up to a byte further is written as
pub escaped_more : (bytes : List ℕ) (i d : ℕ) → i < length bytes → escaped (take (i + 1) bytes) ≡ escaped (take i bytes) ++ escape (get_or bytes i d)
escaped_more bytes i d within =
    ap escaped (take_more bytes i d within) ∙ flat_map-append escape (take i bytes) (get_or bytes i d ∷ [])
    ∙ ap (λ l. escaped (take i bytes) ++ l) (append-nil (escape (get_or bytes i d)))
