use Rattle.std.proofs.Common.{rules, ◌≡◌, ◌∙◌, ap, subst}
use Rattle.alarm_page.specs.Laws.{AreBytes}
use Rattle.alarm_page.specs.Pages.{about, page_of, told_by, texts_of}
use Rattle.alarm_page.proofs.Joined.{joined}
use Rattle.alarm_page.proofs.Told.{told_back}
use Rattle.alarm_page.proofs.page.page_text.Goals as goal

pub returns-clause-told : goal.returns-clause-told
returns-clause-told c =
    let texts = texts_of c.args.told.now in
    let page : c.from_vec.result ≡ page_of texts = search (joined, rules) in
    let about_is : c.bytes.result.now ≡ about texts = search rules in
    ap told_by page ∙ told_back texts (record {
      alarms = c.in_ok-push_opening.ensures.bytes;
      numbers = c.in_ok-push_file.ensures.bytes.0;
      file = c.in_ok-push_file.ensures.bytes.1;
      report = c.in_ok-push_others.ensures.bytes.0;
      model = c.in_ok-push_others.ensures.bytes.1;
      about_is = subst AreBytes about_is c.in_ok-push_others.ensures.bytes.2;
    })
