-- The fixed parts of a page.
use Rattle.std.specs.Prelude.{ℕ, List}
use Rattle.alarm_page.specs.declared.part.Part.{Part}
use Rattle.alarm_page.specs.declared.part.Part.TheVariants as part
use Rattle.alarm_page.specs.declared.parts.TheConstants as parts

-- the text of a part
unfoldable pub text_of : Part → List ℕ
text_of part.Head = parts.HEAD.now
text_of part.Style = parts.STYLE.now
text_of part.BeforeAlarms = parts.BEFORE_ALARMS.now
text_of part.BeforeNumbers = parts.BEFORE_NUMBERS.now
text_of part.BeforeFile = parts.BEFORE_FILE.now
text_of part.BeforeReport = parts.BEFORE_REPORT.now
text_of part.BeforeModel = parts.BEFORE_MODEL.now
text_of part.BeforeAbout = parts.BEFORE_ABOUT.now
text_of part.BeforeScript = parts.BEFORE_SCRIPT.now
text_of part.Script = parts.SCRIPT.now
text_of part.End = parts.END.now
