use Rattle.std.proofs.Common.{rules, ◌≡◌, Some, None, option_map, string_bytes}
use Rattle.serde_json.specs.Data.{put}
use Rattle.serde_json.specs.View.{view, members_view}
use Rattle.cq_request.specs.Gist.{form_of}
use Rattle.cq_request.proofs.Objects.{known_noted, other_noted}
use Rattle.cq_request.proofs.gist.note_member.Goals as goal

pub returns-in_ok-put_member-in-Some-clause-read : goal.returns-in_ok-put_member-in-Some-clause-read
returns-in_ok-put_member-in-Some-clause-read c =
    let known : form_of c.args.key.now ≡ Some c.in-Some.form = search rules in
    let grown : members_view c.put_member.new.object.entries ≡ put c.args.key.now (view c.in_ok-member-in-Some.member) (members_view c.args.gist.now.members.entries) = search rules in
    known_noted 126 c.args.key.now c.args.reader.now c.member_read.new.reader (members_view c.args.gist.now.members.entries) (members_view c.put_member.new.object.entries) (option_map string_bytes c.args.gist.now.other) c.args.gist.now.has_passed c.member_read.new.has_passed c.in-Some.form (view c.in_ok-member-in-Some.member) known grown c.in_ok-member-in-Some.ensures.read

pub returns-in_ok-skip_value-in-None-clause-read : goal.returns-in_ok-skip_value-in-None-clause-read
returns-in_ok-skip_value-in-None-clause-read c =
    let none : form_of c.args.key.now ≡ None = search rules in
    let same : members_view c.note_other.new.gist.members.entries ≡ members_view c.args.gist.now.members.entries = search rules in
    other_noted 126 c.args.key.now c.args.reader.now c.skip_value.new.self (members_view c.args.gist.now.members.entries) (members_view c.note_other.new.gist.members.entries) (option_map string_bytes c.args.gist.now.other) (option_map string_bytes c.note_other.new.gist.other) c.args.gist.now.has_passed c.note_other.new.gist.has_passed
    none same c.in_ok-note_other-in-None.ensures.other c.in_ok-note_other-in-None.ensures.passed c.in_ok-skip_value-in-None.ensures.value
