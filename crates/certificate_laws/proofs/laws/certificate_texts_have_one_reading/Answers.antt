use Rattle.certificate_laws.proofs.CertificateOnce.{one_certificate, one_fault, certificate_or_fault}
use Rattle.certificate_laws.proofs.CertificateTexts.{each_is_read}
use Rattle.certificate_laws.proofs.laws.certificate_texts_have_one_reading.Goals as goal

pub returns-clause-some : goal.returns-clause-some
returns-clause-some c = each_is_read

pub returns-clause-apart : goal.returns-clause-apart
returns-clause-apart c = certificate_or_fault

pub returns-clause-alike : goal.returns-clause-alike
returns-clause-alike c = one_certificate

pub returns-clause-alone : goal.returns-clause-alone
returns-clause-alone c = one_fault
