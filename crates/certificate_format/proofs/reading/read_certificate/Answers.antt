use Rattle.std.proofs.Common.{◌≡◌, ap, subst, ◌∙◌, length}
use Rattle.certificate_format.specs.Regions.{piece_of}
use Rattle.certificate_format.specs.Rows.{row_of}
use Rattle.certificate_format.specs.Certificates.{IsCertificateRead}
use Rattle.certificate_format.proofs.Tables.{rows_give}
use Rattle.certificate_format.proofs.Bounded.{pieces_below, loops_below, alarms_below, all_bounds}
use Rattle.certificate_format.proofs.reading.read_certificate.Goals as goal

pub returns-clause-answers : goal.returns-clause-answers
returns-clause-answers c =
    let rows = c.deref.ensures.value ∙ c.in_ok-rows.ensures in
    let same : row_of c.deref.result.now ≡ piece_of c.args.features.now c.args.atoms.now = λ i text. (ap (λ v. row_of v text) rows ∙ rows_give c.args.features.now c.args.atoms.now text) i in
    subst (λ of. IsCertificateRead of c.args.names.now c.args.bytes.now c.read_lines.result) same (c.read_lines.ensures c.args.bytes.now c.if-bytes-gt-CERTIFICATE_BYTES.false c.in-Some.ensures)

pub returns-clause-loops : goal.returns-clause-loops
returns-clause-loops c =
    loops_below (length c.args.atoms.now) (piece_of c.args.features.now c.args.atoms.now) (pieces_below c.args.features.now c.args.atoms.now) c.args.names.now c.args.bytes.now c.read_lines.result
    (returns-clause-answers c)

pub returns-clause-alarms : goal.returns-clause-alarms
returns-clause-alarms c =
    alarms_below (length c.args.atoms.now) (piece_of c.args.features.now c.args.atoms.now) (pieces_below c.args.features.now c.args.atoms.now) c.args.names.now c.args.bytes.now c.read_lines.result
    (returns-clause-answers c)

pub returns-clause-bounds : goal.returns-clause-bounds
returns-clause-bounds c =
    all_bounds (piece_of c.args.features.now c.args.atoms.now) c.args.names.now c.args.bytes.now c.read_lines.result (returns-clause-answers c)
