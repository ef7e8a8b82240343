mod CommandLaws
mod FieldLaws
mod HeaderLaws
mod NameLaws
mod ReplyLaws
mod ShortLaws
mod TextLaws
