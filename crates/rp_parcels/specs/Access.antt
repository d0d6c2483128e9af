-- The reply of access.
use Rattle.rp_model.specs.commands.Reply.{Reply, reply_lines}
use Rattle.rp_rows.specs.declared.access.Access.{Access}
use Rattle.rp_rows.specs.Access.{told_access}

-- the reply of an access: the verdict lines of its chain and its levels
abbrev pub access_reply : Access → Reply
access_reply a = reply_lines (told_access a)
