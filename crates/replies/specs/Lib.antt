pub mod Forms
pub mod Places
pub mod Reply
pub mod Special
pub mod Replies
pub mod ReplyText
